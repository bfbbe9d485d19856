use Rattle.std.proofs.Common.{sym, ap, ◌∙◌}
use Rattle.std.specs.Prelude.{Some, None}
use Rattle.std.specs.Option.{option_copied}
use Rattle.core_state.proofs.EndChanges.{near_known}
use Rattle.core_state.proofs.ends.Ends.near.Goals as goal

pub returns-in_err-end : goal.returns-in_err-end
returns-in_err-end c =
    c.from_residual.ensures ∙ near_known _ _ c.self.view_is c.args.k None (sym c.get.ensures ∙ ap option_copied c.in_err-end.was)

pub returns : goal.returns
returns c =
    ap Some c.near.ensures
    ∙ near_known _ _ c.self.view_is c.args.k (Some c.in_ok-end.end.now) (sym c.get.ensures ∙ ap option_copied c.in_ok-end.was)
