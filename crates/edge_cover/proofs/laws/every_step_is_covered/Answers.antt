use Rattle.edge_cover.proofs.Cover.{steps_are_covered}
use Rattle.edge_cover.proofs.Pairs.{pairs_are_covered}
use Rattle.edge_cover.proofs.Tables.{table_runs_are_covered}
use Rattle.edge_cover.proofs.laws.every_step_is_covered.Goals as goal

pub returns : goal.returns
returns c = record { steps = steps_are_covered; pairs = pairs_are_covered; tables = table_runs_are_covered }
