use Rattle.std.proofs.Common.{List, IsTrue, true, ◌↔◌, subst}
use Rattle.std.specs.Prelude.{All}
use Rattle.std.proofs.lemmas.List.Elements.{All-more}
use Rattle.cert_text.specs.declared.lines.ReturnLine.{ReturnLine}
use Rattle.cert_text.specs.declared.lines.ReturnWhy.TheVariants.{Itself}
use Rattle.cert_laws.specs.Valid.{IsListedEnd}
use Rattle.cert_ends.proofs.OneByOne.{all_hold}
use Rattle.cert_ends.proofs.missing.returns_end.Goals as goal

pub loop-line-preserved : goal.loop-line-preserved
loop-line-preserved g c =
    let map = g.C.Chains.map c.args._code.now in
    let none : ReturnLine = record { at = 0; rank = 0; why = Itself } in
    All-more (λ (line : ReturnLine). IsListedEnd map c.args.part.now.leads line.at) c.as_slice-line-items.result.now c.loop-line.line-index none
    c.loop-line-test.true c.loop-line.invariant ((c.requires.exact _).0 (c.is_end.ensures.0 c.if-not-is_end.false))

pub returns : goal.returns
returns g c =
    let map = g.C.Chains.map c.args._code.now in
    subst (λ (lines : List ReturnLine). IsTrue true ↔ All (λ (line : ReturnLine). IsListedEnd map c.args.part.now.leads line.at) lines) c.as_slice-line-items.ensures
    (all_hold (λ (line : ReturnLine). IsListedEnd map c.args.part.now.leads line.at) c.as_slice-line-items.result.now c.loop-line.line-index c.loop-line-test.false c.loop-line.invariant)
