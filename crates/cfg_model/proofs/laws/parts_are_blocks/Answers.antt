use Rattle.cfg_model.proofs.Graphs.Joined.{edges_join_blocks, entries_start_blocks, bodies_list_blocks}
use Rattle.cfg_model.proofs.laws.parts_are_blocks.Goals as goal

pub returns : goal.returns
returns c = record { edges = edges_join_blocks; entries = entries_start_blocks; bodies = bodies_list_blocks }
