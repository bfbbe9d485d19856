use Rattle.walk_run.proofs.Unique.{answer-unique}
use Rattle.walk_run.proofs.laws.one_walk_answer.Goals as goal

pub returns : goal.returns
returns c = answer-unique
