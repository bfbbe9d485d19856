use Rattle.std.proofs.Common.{◌∙◌, arith}
use Rattle.steal_pool.proofs.Rules.{takes, finds}
use Rattle.steal_pool.proofs.Gathering.{draining_has, draining_more, draining_ends, draining_less}
use Rattle.steal_pool.proofs.pool.drain.Goals as goal

pub pop_as-requires-clause-fifo : goal.pop_as-requires-clause-fifo
pop_as-requires-clause-fifo c =
    let has = draining_has _ _ _ _ c.loop-name.invariant.0 c.requires.all in
    λ _. takes _ _ (omega (arith, has.0, has.1))

pub pop_as-requires-clause-empty : goal.pop_as-requires-clause-empty
pop_as-requires-clause-empty c = finds _ _

pub loop-name-smaller : goal.loop-name-smaller
loop-name-smaller c =
    let has = draining_has _ _ _ _ c.loop-name.invariant.0 c.requires.all in
    draining_less _ _ c.in-Some.name c.in-Some.ensures.rule.0 (c.in-Some.ensures.rule.1 has)

pub loop-name-preserved : goal.loop-name-preserved
loop-name-preserved c = (
  draining_more _ _ _ _ _ _ c.in-Some.name c.loop-name.invariant.0 c.requires.all c.in-Some.ensures.rule.0 c.in-Some.ensures.rule.1 c.in_ok-push.ensures.items,
  c.in-Some.ensures.same.0.1 ∙ c.loop-name.invariant.1,
)

pub returns : goal.returns
returns c = draining_ends _ _ _ _ c.loop-name.invariant.0 c.requires.all c.in_default.ensures.rule.1
