use Rattle.std.proofs.Common.{ℕ}
use Rattle.std.proofs.lemmas.List.Elements.{All-more}
use Rattle.cert_laws.specs.Lines.{IsReturn}
use Rattle.cert_laws.specs.Ways.{EndsIn}
use Rattle.cert_ends.proofs.OneByOne.{all_hold, refuted}
use Rattle.cert_ends.proofs.missing.none_ends_in.Goals as goal

pub loop-a-preserved : goal.loop-a-preserved
loop-a-preserved g c =
    let map = g.C.Chains.map c.args.code.now in
    let returns = c.args.returns.now.lines.now in
    All-more (λ (a : ℕ). ¬ EndsIn map (IsReturn returns) a) c.args.addresses.now c.loop-a.a-index 0 c.loop-a-test.true c.loop-a.invariant
    (refuted (EndsIn map (IsReturn returns) _) c.ends_in.result c.if-ends_in.false c.ends_in.ensures)

pub returns : goal.returns
returns g c =
    let map = g.C.Chains.map c.args.code.now in
    all_hold (λ (a : ℕ). ¬ EndsIn map (IsReturn c.args.returns.now.lines.now) a) c.args.addresses.now c.loop-a.a-index c.loop-a-test.false c.loop-a.invariant
