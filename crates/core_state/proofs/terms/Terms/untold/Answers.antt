use Rattle.std.proofs.Common.{sym, ap, ◌∙◌}
use Rattle.std.specs.Option.{option_copied}
use Rattle.core_state.proofs.TermChanges.{none_to_tell, next_known}
use Rattle.core_state.proofs.terms.Terms.untold.Goals as goal

pub returns-in_err-term : goal.returns-in_err-term
returns-in_err-term c =
    rw c.from_residual.ensures
    (none_to_tell _ _ c.self.view_is c.args.k (sym c.get.ensures ∙ ap option_copied c.in_err-term.was))

pub returns : goal.returns
returns c =
    next_known _ _ c.self.view_is c.args.k c.in_ok-term.term.now (sym c.get.ensures ∙ ap option_copied c.in_ok-term.was) _ c.next_to_tell.ensures
