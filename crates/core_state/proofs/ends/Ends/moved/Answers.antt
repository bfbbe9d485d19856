use Rattle.std.proofs.Common.{sym, ap, ◌∙◌}
use Rattle.std.specs.Option.{option_copied}
use Rattle.core_state.proofs.EndChanges.{none_moved, least_known}
use Rattle.core_state.proofs.ends.Ends.moved.Goals as goal

pub returns-in_err-end : goal.returns-in_err-end
returns-in_err-end c =
    rw c.from_residual.ensures
    (none_moved _ _ c.self.view_is c.args.k (sym c.get.ensures ∙ ap option_copied c.in_err-end.was))

pub returns : goal.returns
returns c =
    least_known _ _ c.self.view_is c.args.k c.in_ok-end.end.now (sym c.get.ensures ∙ ap option_copied c.in_ok-end.was) _ c.least_moved.ensures
