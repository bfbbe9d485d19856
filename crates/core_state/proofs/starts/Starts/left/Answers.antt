use Rattle.core_state.proofs.LineStarts.{some_left, none_left}
use Rattle.core_state.proofs.starts.Starts.left.Goals as goal

pub returns-clause-some : goal.returns-clause-some
returns-clause-some c = some_left c.self.inside.lines c.args.self.now c.self.view_is c.self.invariant c.find_by.result c.find_by.ensures.some

pub returns-clause-none : goal.returns-clause-none
returns-clause-none c = none_left c.self.inside.lines c.args.self.now c.self.view_is c.self.invariant c.find_by.result c.find_by.ensures.none
