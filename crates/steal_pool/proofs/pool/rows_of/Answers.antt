use Rattle.std.proofs.Common.{◌+◌, ◌∙◌, List, map, length, ap, subst, sym}
use Rattle.std.proofs.lemmas.List.{length_push}
use Rattle.crossbeam_deque.specs.Handles.{worker_deque}
use Rattle.steal_pool.specs.declared.end.Row.{Row}
use Rattle.steal_pool.specs.Pool.{DequeId}
use Rattle.steal_pool.specs.inner.Building.{AreEnds, AreRows}
use Rattle.steal_pool.proofs.Making.{rows_more}
use Rattle.steal_pool.proofs.pool.rows_of.Goals as goal

pub loop-number-preserved : goal.loop-number-preserved
loop-number-preserved c =
    let inv = c.loop-number.invariant in
    let deques = map worker_deque c.args.owners.now.items in
    let rows = c.loop-number.rows.items in
    let row = c.in_ok-ends_of.field-0 in
    let made = c.in_ok-ends_of.ensures in
    let is = c.in_ok-push.ensures.items in
    let fit = subst (λ (d : List DequeId). AreEnds c.loop-number.number d row.ends.items) inv.0 made.ends in (
      made.deques ∙ inv.0,
      made.new,
      ap (λ (l : List Row). length l) is ∙ (length_push rows row ∙ ap (λ n. n + 1) inv.2),
      subst (AreRows deques) (sym is) (rows_more deques rows row inv.3 (subst (λ n. AreEnds n deques row.ends.items) (sym inv.2) fit)),
    )
