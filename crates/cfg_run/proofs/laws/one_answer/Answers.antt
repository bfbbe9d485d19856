use Rattle.file_program.proofs.Unique.{cuts-unique, graph-unique}
use Rattle.cfg_run.proofs.Unique.{answer-unique}
use Rattle.cfg_run.proofs.laws.one_answer.Goals as goal

pub returns : goal.returns
returns c = record { cuts = cuts-unique; graph = graph-unique; answer = answer-unique }
