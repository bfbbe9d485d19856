use Rattle.std.proofs.Common.{◌∙◌, ap, sym}
use Rattle.chain_index.specs.Chain.{next_of}
use Rattle.code_view.specs.Cuts.{cut_of}
use Rattle.code_view.specs.FileCode.{FileCode}
use Rattle.code_view.proofs.Lawful.{code_of}
use Rattle.code_view.proofs.ChainEnds.{next-flow}
use Rattle.code_view.proofs.Views.{lawful-view, index-view}
use Rattle.code_view.proofs.code.CodeChains.flow.Goals as goal

pub next-requires : goal.next-requires
next-requires c = index-view _ _ _ c.self.view_is c.args.a _ c.self.invariant.index c.requires

pub decoded_flow-requires : goal.decoded_flow-requires
decoded_flow-requires c = code_of c.args.self.now.bytes (cut_of c.args.self.now.cuts) c.args.a c.requires

pub returns-in-Some-clause-flow : goal.returns-in-Some-clause-flow
returns-in-Some-clause-flow c =
    let code = c.args.self.now in
    let file = c.self.invariant.index ∙ ap (λ (f : FileCode). f.bytes) c.self.view_is in
    next-flow code.bytes (cut_of code.cuts) c.args.a c.in-Some.next (code_of code.bytes (cut_of code.cuts) c.args.a c.requires)
    (ap (λ bytes. next_of bytes c.args.a) (sym file) ∙ sym c.in-Some.ensures)

pub returns-in-Some-clause-lawful : goal.returns-in-Some-clause-lawful
returns-in-Some-clause-lawful c = lawful-view _ _ c.self.invariant.accepted c.self.invariant.cuts _ c.self.view_is

pub returns-in-None-clause-lawful : goal.returns-in-None-clause-lawful
returns-in-None-clause-lawful c = lawful-view _ _ c.self.invariant.accepted c.self.invariant.cuts _ c.self.view_is
