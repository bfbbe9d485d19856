use Rattle.core_state.proofs.LineMarks.{least_mark_after}
use Rattle.core_state.proofs.line.Line.after.Goals as goal

pub returns : goal.returns
returns c = least_mark_after c.args.self.now c.args.a c.bits_after.result c.bits_after.ensures.after c.bits_after.ensures.before c.lowest.result c.lowest.ensures
