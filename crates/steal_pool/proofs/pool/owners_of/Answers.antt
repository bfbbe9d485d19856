use Rattle.std.proofs.Common.{◌≡◌, ◌+◌, ◌∙◌, [], length, ap, subst, sym, arith}
use Rattle.std.proofs.lemmas.List.{length_push}
use Rattle.steal_pool.specs.declared.note.Note.{Note}
use Rattle.steal_pool.specs.Rule.{note}
use Rattle.steal_pool.specs.inner.Building.{whole_of, IsNew, AreOwners}
use Rattle.steal_pool.proofs.Making.{owners_more}
use Rattle.steal_pool.proofs.pool.owners_of.Goals as goal

pub loop-preserved : goal.loop-preserved
loop-preserved c =
    let own = c.in_ok-fifo_as.field-0 in
    let made = c.in_ok-fifo_as.ensures in
    let whole : whole_of own ≡ 1 = ap (λ (v : Note). v.whole) made.4 in
    let new : IsNew own =
    record {
      first_out = made.1;
      notes = made.4 ∙ ap (λ n. note 1 n [] []) (sym whole);
      some = omega (arith, whole);
      pushed = made.3;
      room = made.0.1;
    } in
    let is = c.in_ok-push.ensures.items in
    (ap (λ l. length l) is ∙ length_push c.loop.owners.items own ∙ ap (λ n. n + 1) c.loop.invariant.0, subst (AreOwners 0) (sym is) (owners_more c.loop.owners.items own c.loop.invariant.1 new whole))
