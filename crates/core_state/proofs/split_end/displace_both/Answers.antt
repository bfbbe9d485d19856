use Rattle.std.proofs.Common.{sym, ap, ◌∙◌}
use Rattle.std.specs.FinSet as sets
use Rattle.core_state.proofs.Displaced.{remove_one, refused, when_true}
use Rattle.core_state.proofs.split_end.displace_both.Goals as goal

pub returns-then-added-clause-unchanged : goal.returns-then-added-clause-unchanged
returns-then-added-clause-unchanged c =
    remove_one _ _ c.args.p c.remove.ensures.updates.0
    ∙ ap (λ s. sets.remove s c.args.p) (refused _ (sym c.is_err.ensures.value ∙ c.if-is_err.true) c.displace-2.ensures.unchanged)
    ∙ when_true _ _ _ _ c.if-added.true c.in_ok-added.ensures.added
