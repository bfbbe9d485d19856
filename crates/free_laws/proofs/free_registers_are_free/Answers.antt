use Rattle.free_laws.proofs.Twins.{runs_within_are_alike}
use Rattle.free_laws.proofs.Forever.{free_registers_are_free}
use Rattle.free_laws.proofs.Keeping.{prepared_runs_keep_to_graph}
use Rattle.free_laws.proofs.ByMask.{masks_say_what_is_live}
use Rattle.free_laws.proofs.free_registers_are_free.Goals as goal

pub returns : goal.returns
returns c = record { within = runs_within_are_alike; always = free_registers_are_free; keeps = prepared_runs_keep_to_graph; masks = masks_say_what_is_live }
