use Rattle.walk_trace.proofs.Entered.{entry_is_entered, edges_are_entered}
use Rattle.walk_trace.proofs.laws.a_walk_leaves_by_out_alone.Goals as goal

pub returns : goal.returns
returns c = record { entry = entry_is_entered; edges = edges_are_entered }
