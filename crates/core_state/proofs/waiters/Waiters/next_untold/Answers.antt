use Rattle.std.proofs.Common.{[], ◌∷◌, sym, subst}
use Rattle.std.specs.Prelude.{Option, None}
use Rattle.builder_model.specs.declared.state.Waiter.{Waiter}
use Rattle.builder_model.specs.Waiter.{waiter_cmp}
use Rattle.core_state.specs.Least.{IsLeastBy}
use Rattle.core_state.specs.inner.InPlace.{pair_of}
use Rattle.core_state.specs.inner.Waiting.{AwaitsTelling, lesser_by}
use Rattle.core_state.proofs.InPlace.{seen_as, apart_as, least_in_place, least_of_two}
use Rattle.core_state.proofs.waiters.Waiters.next_untold.Goals as goal

pub returns-in-Nobody : goal.returns-in-Nobody
returns-in-Nobody c =
    least_in_place [] c.args.self.now (seen_as _ _ c.in-Nobody.is c.args.self.now c.self.view_is) None (λ w h. cc h)

pub returns-in-One : goal.returns-in-One
returns-in-One c =
    least_in_place (pair_of c.in-One.note c.in-One.terminator ∷ []) c.args.self.now (seen_as _ _ c.in-One.is c.args.self.now c.self.view_is)
    c.untold.result c.untold.ensures

pub returns-in-Two : goal.returns-in-Two
returns-in-Two c =
    let first = pair_of c.in-Two.first_note c.in-Two.first in
    let second = pair_of c.in-Two.second_note c.in-Two.second in
    subst (λ (o : Option Waiter). IsLeastBy waiter_cmp (AwaitsTelling c.args.self.now) o) (sym c.lesser.ensures)
    (least_in_place (first ∷ second ∷ []) c.args.self.now (seen_as _ _ c.in-Two.is c.args.self.now c.self.view_is)
    (lesser_by waiter_cmp c.untold-in-Two.result c.untold-in-Two-2.result)
    (least_of_two first second (apart_as _ _ c.in-Two.is c.self.invariant) c.untold-in-Two.result c.untold-in-Two-2.result
    c.untold-in-Two.ensures c.untold-in-Two-2.ensures))
