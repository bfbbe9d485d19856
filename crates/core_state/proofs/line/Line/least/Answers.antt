use Rattle.core_state.proofs.LineMarks.{least_mark}
use Rattle.core_state.proofs.line.Line.least.Goals as goal

pub returns : goal.returns
returns c = least_mark c.args.self.now c.args.a c.lowest.result c.lowest.ensures
