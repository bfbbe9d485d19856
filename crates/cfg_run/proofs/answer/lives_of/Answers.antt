use Rattle.cfg_run.proofs.Listed.{bodies-rise, in-order}
use Rattle.cfg_run.proofs.answer.lives_of.Goals as goal

pub lives-requires-clause-order : goal.lives-requires-clause-order
lives-requires-clause-order g c = in-order c.args.file.now.bytes c.graph.result.now c.graph.ensures.of_file

pub lives-requires-clause-bodies : goal.lives-requires-clause-bodies
lives-requires-clause-bodies g c = bodies-rise c.args.file.now.bytes c.graph.result.now c.graph.ensures.of_file
