use Rattle.std.proofs.Common.{◌≡◌, ◌+◌, ◌-◌, get_or, refl, subst, inl, inr, arith}
use Rattle.std.proofs.lemmas.Bool.{cases_lt}
use Rattle.cfg_model.specs.Graph.Graph.{EdgeBefore}
use Rattle.reached_graph.proofs.InOrder.{all_before}
use Rattle.reached_graph.proofs.edges.are_in_order.Goals as goal

pub loop-i-preserved : goal.loop-i-preserved
loop-i-preserved c = λ k d below. elim (cases_lt (k + 1) c.loop-i.i) [
  | inl less ↦ c.loop-i.invariant k d less
  | inr past ↦
      let is : c.loop-i.i - 1 ≡ k = omega (arith, below, past) in
      subst (λ n. EdgeBefore (get_or c.args.edges.now n d) (get_or c.args.edges.now (n + 1) d)) is (c.if-not-comes_next.ensures refl d)
]

pub returns : goal.returns
returns c = λ _. all_before c.args.edges.now (λ k d within. c.loop-i.invariant k d (omega (arith, within)))
