use Rattle.std.specs.Prelude.{IsSome}
use Rattle.std.proofs.lemmas.List.Elements.{All-more}
use Rattle.cert_text.specs.declared.lines.ReturnLine.{ReturnLine}
use Rattle.cert_text.specs.declared.lines.ReturnWhy.TheVariants.{Itself}
use Rattle.cert_ends.proofs.OneByOne.{all_found}
use Rattle.test_certificates.proofs.ends.returns_stand.Goals as goal

pub loop-line-preserved : goal.loop-line-preserved
loop-line-preserved g c =
    let map = g.C.Chains.map c.args.code.now in
    let none : ReturnLine = record { at = 0; rank = 0; why = Itself } in
    All-more (λ (line : ReturnLine). IsSome (map line.at)) c.args.returns.now c.loop-line.line-index none c.loop-line-test.true
    c.loop-line.invariant (c.has.ensures.has.0 c.if-not-has.false)

pub returns : goal.returns
returns g c =
    let map = g.C.Chains.map c.args.code.now in
    λ t. all_found (λ (line : ReturnLine). IsSome (map line.at)) c.args.returns.now c.loop-line.line-index c.loop-line-test.false c.loop-line.invariant
