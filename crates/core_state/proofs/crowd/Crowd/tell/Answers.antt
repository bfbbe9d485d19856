use Rattle.std.proofs.Common.{true, sym, ap, ◌∙◌}
use Rattle.std.specs.Prelude.{is_some}
use Rattle.std.specs.Option.{option_copied_mut}
use Rattle.std.specs.FinMap as maps
use Rattle.core_state.proofs.WaiterChanges.{waiter_there, waiter_put, untold_taken, untold_as, untold_without, told_now, told_never}
use Rattle.core_state.proofs.crowd.Crowd.tell.Goals as goal

pub invariant_of-self : goal.invariant_of-self
invariant_of-self c =
    let there = sym c.get_mut.ensures.value ∙ ap option_copied_mut c.in-Some.is in
    untold_as _ _ _ _ (untold_taken _ _ c.args.w c.remove.ensures.updates.0)
    (waiter_put _ _ c.args.w true ((c.get_mut.follows.holds true).3 (ap is_some there)).0)
    (untold_without _ _ c.args.w c.self.invariant)

pub returns-in-Some : goal.returns-in-Some
returns-in-Some c =
    let there = sym c.get_mut.ensures.value ∙ ap option_copied_mut c.in-Some.is in
    let waits = sym (waiter_there _ _ c.self.view_is c.args.w) ∙ there in
    waiter_put _ _ c.args.w true ((c.get_mut.follows.holds true).3 (ap is_some there)).0
    ∙ ap (λ m. maps.insert m c.args.w true) c.self.view_is ∙ told_now _ c.args.w (ap is_some waits)

pub returns-in_default : goal.returns-in_default
returns-in_default c =
    let none = sym c.get_mut.ensures.value ∙ ap option_copied_mut c.in_default.is in
    let never = sym (waiter_there _ _ c.self.view_is c.args.w) ∙ none in
    rw c.get_mut.follows.holds-at-none
    (c.self.view_is ∙ told_never _ c.args.w never)
