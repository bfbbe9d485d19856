use Rattle.core_state.proofs.LineStarts.{none_in_page, next_in_page}
use Rattle.core_state.proofs.starts.StartsKeys.after_in_page.Goals as goal

pub returns-in_err-after_in_page-in-None : goal.returns-in_err-after_in_page-in-None
returns-in_err-after_in_page-in-None c = none_in_page c.args.self.now c.args.a c.self.inside.lines c.self.view_is c.self.invariant c.in-None.ensures c.from_residual.result c.from_residual.ensures c.in_err-after_in_page-in-None.ensures

pub returns-in_ok-after_in_page-in-None : goal.returns-in_ok-after_in_page-in-None
returns-in_ok-after_in_page-in-None c = next_in_page c.args.self.now c.args.a c.self.inside.lines c.self.view_is c.self.invariant c.in-None.ensures c.in_ok-after_in_page-in-None.field-0 c.in_ok-after_in_page-in-None.ensures c.least_of.result c.least_of.ensures
