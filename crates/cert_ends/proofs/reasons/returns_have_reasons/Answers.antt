use Rattle.std.proofs.Common.{List, IsTrue, true, ◌↔◌, subst}
use Rattle.std.specs.Prelude.{All}
use Rattle.std.proofs.lemmas.List.Elements.{All-more}
use Rattle.cert_text.specs.declared.lines.ReturnLine.{ReturnLine}
use Rattle.cert_text.specs.declared.lines.ReturnWhy.TheVariants.{Itself}
use Rattle.cert_laws.specs.Lines.{IsReturnBelow}
use Rattle.cert_laws.specs.Ways.{ReturnsBy}
use Rattle.cert_ends.proofs.OneByOne.{all_hold}
use Rattle.cert_ends.proofs.reasons.returns_have_reasons.Goals as goal

pub loop-line-preserved : goal.loop-line-preserved
loop-line-preserved g c =
    let map = g.C.Chains.map c.args.code.now in
    let returns = c.args.returns.now.lines.now in
    let none : ReturnLine = record { at = 0; rank = 0; why = Itself } in
    All-more (λ (line : ReturnLine). ReturnsBy map (IsReturnBelow returns line.rank) line.at line.why) c.as_slice-lines.result.now c.loop-line.line-index none
    c.loop-line-test.true c.loop-line.invariant (c.in_ok-has_reason.ensures.0 c.if-not-branch.false)

pub returns : goal.returns
returns g c =
    let map = g.C.Chains.map c.args.code.now in
    let returns = c.args.returns.now.lines.now in
    subst (λ (lines : List ReturnLine). IsTrue true ↔ All (λ (line : ReturnLine). ReturnsBy map (IsReturnBelow lines line.rank) line.at line.why) c.args.part.now.returns) c.requires.returns
    (subst (λ (lines : List ReturnLine). IsTrue true ↔ All (λ (line : ReturnLine). ReturnsBy map (IsReturnBelow returns line.rank) line.at line.why) lines) c.as_slice-lines.ensures
    (all_hold (λ (line : ReturnLine). ReturnsBy map (IsReturnBelow returns line.rank) line.at line.why) c.as_slice-lines.result.now c.loop-line.line-index c.loop-line-test.false c.loop-line.invariant))
