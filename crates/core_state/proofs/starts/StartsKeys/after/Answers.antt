use Rattle.core_state.proofs.LineStarts.{next_after, none_after}
use Rattle.core_state.proofs.starts.StartsKeys.after.Goals as goal

pub returns-in_err-after-in-None : goal.returns-in_err-after-in-None
returns-in_err-after-in-None c = none_after c.args.self.now c.args.a c.self.inside.lines c.self.view_is c.self.invariant c.in-None.ensures c.from_residual.result c.from_residual.ensures c.in_err-after-in-None.ensures

pub returns-in_ok-after-in-None : goal.returns-in_ok-after-in-None
returns-in_ok-after-in-None c = next_after c.args.self.now c.args.a c.self.inside.lines c.self.view_is c.self.invariant c.in-None.ensures c.in_ok-after-in-None.field-0 c.in_ok-after-in-None.ensures c.least_of.result c.least_of.ensures
