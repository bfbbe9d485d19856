use Rattle.edge_cover.proofs.OpenSteps.{open_steps_are_covered, open_pairs_are_covered, open_table_runs_are_covered}
use Rattle.edge_cover.proofs.laws.every_open_step_is_covered.Goals as goal

pub returns : goal.returns
returns c = record { steps = open_steps_are_covered; pairs = open_pairs_are_covered; tables = open_table_runs_are_covered }
