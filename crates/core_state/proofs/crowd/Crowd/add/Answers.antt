use Rattle.std.proofs.Common.{sym, ap, false, ◌∙◌}
use Rattle.std.specs.Prelude.{is_some}
use Rattle.std.specs.FinMap as maps
use Rattle.std.specs.FinSet as sets
use Rattle.core_state.proofs.Displaced.{refused}
use Rattle.core_state.proofs.WaiterChanges.{waiter_there, waiter_put, put_and_taken, untold_put, untold_as, untold_with, accepted}
use Rattle.core_state.proofs.crowd.Crowd.add.Goals as goal

pub invariant_of-self-then-is_err : goal.invariant_of-self-then-is_err
invariant_of-self-then-is_err c =
    untold_as _ _ _ _ (ap sets.from_list (refused _ (sym c.is_err.ensures.value ∙ c.if-is_err.true) c.insert-2.ensures.err))
    (put_and_taken _ _ _ c.args.w _ (ap is_some (waiter_there _ _ c.self.view_is c.args.w) ∙ c.requires) c.in_ok-insert.ensures.updates.0 c.remove.ensures.updates.0)
    c.self.invariant

pub returns-then-is_err-clause-unchanged : goal.returns-then-is_err-clause-unchanged
returns-then-is_err-clause-unchanged c =
    put_and_taken _ _ _ c.args.w _ (ap is_some (waiter_there _ _ c.self.view_is c.args.w) ∙ c.requires) c.in_ok-insert.ensures.updates.0 c.remove.ensures.updates.0
    ∙ c.self.view_is

pub invariant_of-self-else-is_err : goal.invariant_of-self-else-is_err
invariant_of-self-else-is_err c =
    untold_as _ _ _ _ (untold_put _ _ c.args.w (accepted _ (sym c.is_err.ensures.value ∙ c.if-is_err.false) c.insert-2.ensures.updates).0)
    (waiter_put _ _ c.args.w _ c.in_ok-insert.ensures.updates.0)
    (untold_with _ _ c.args.w c.self.invariant)

pub returns-clause-added : goal.returns-clause-added
returns-clause-added c =
    waiter_put _ _ c.args.w _ c.in_ok-insert.ensures.updates.0 ∙ ap (λ m. maps.insert m c.args.w false) c.self.view_is
