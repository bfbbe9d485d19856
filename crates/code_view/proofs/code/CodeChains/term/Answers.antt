use Rattle.std.proofs.Common.{◌≡◌, ◌∙◌, ap, sym, subst, true}
use Rattle.elf_image.specs.Code.{is_code}
use Rattle.chain_index.specs.Chain.{IsChainEnd}
use Rattle.code_view.specs.Cuts.{cut_of}
use Rattle.code_view.specs.FileCode.{FileCode}
use Rattle.code_view.proofs.Lawful.{code_of}
use Rattle.code_view.proofs.Views.{lawful-view}
use Rattle.code_view.proofs.ChainEnds.{chain-end}
use Rattle.code_view.proofs.code.CodeChains.term.Goals as goal

pub term-requires : goal.term-requires
term-requires c =
    let code = c.args.self.now in
    subst (λ bytes. is_code bytes c.args.a ≡ true)
    (sym (c.self.invariant.index ∙ ap (λ (f : FileCode). f.bytes) c.self.view_is))
    (code_of code.bytes (cut_of code.cuts) c.args.a c.requires)

pub returns-clause-term : goal.returns-clause-term
returns-clause-term c =
    let code = c.args.self.now in
    chain-end code.bytes (cut_of code.cuts) c.args.a c.term.result (code_of code.bytes (cut_of code.cuts) c.args.a c.requires)
    (subst (λ bytes. IsChainEnd bytes c.args.a c.term.result)
    (c.self.invariant.index ∙ ap (λ (f : FileCode). f.bytes) c.self.view_is) c.term.ensures)

pub returns-clause-lawful : goal.returns-clause-lawful
returns-clause-lawful c = lawful-view _ _ c.self.invariant.accepted c.self.invariant.cuts _ c.self.view_is
