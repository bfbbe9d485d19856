use Rattle.file_program.proofs.Unique.{cuts-unique, graph-unique}
use Rattle.file_program.proofs.laws.one_graph_of_a_file.Goals as goal

pub returns : goal.returns
returns c = record { cuts = cuts-unique; graph = graph-unique }
