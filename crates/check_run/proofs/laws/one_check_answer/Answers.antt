use Rattle.check_run.proofs.Unique.{answer-unique}
use Rattle.check_run.proofs.laws.one_check_answer.Goals as goal

pub returns : goal.returns
returns c = answer-unique
