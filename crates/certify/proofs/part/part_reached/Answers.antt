use Rattle.std.proofs.Common.{ℕ, List, sym, subst}
use Rattle.std.specs.Prelude.{◌↔◌, Contains}
use Rattle.cfg_model.specs.Graph.Leader.{IsLeader}
use Rattle.cert_make.specs.Canonical.{ReturnsReached}
use Rattle.certify.proofs.Listed.{reached_listed}
use Rattle.certify.proofs.part.part_reached.Goals as goal

pub canonical_part-requires-clause-leaders : goal.canonical_part-requires-clause-leaders
canonical_part-requires-clause-leaders g c κs within =
    let map = g.C.Chains.map c.args.code.now in
    subst (λ (xs : List ℕ). (a : ℕ) → Contains xs a ↔ IsLeader map c.args.seeds.now a) (sym c.deref.ensures.value)
    (c.in_ok-leaders.ensures.exact c.args.seeds.now c.requires.reached)

pub canonical_part-requires-clause-returns : goal.canonical_part-requires-clause-returns
canonical_part-requires-clause-returns g c κs within =
    let map = g.C.Chains.map c.args.code.now in
    subst (λ (xs : List ℕ). (k : ℕ) → Contains xs k ↔ ReturnsReached map c.args.seeds.now k) (sym c.deref-2.ensures.value)
    (λ k. reached_listed map c.args.seeds.now c.in_ok-returns.returns.items k (c.in_ok-returns.ensures.exact c.args.seeds.now c.requires.reached k))
