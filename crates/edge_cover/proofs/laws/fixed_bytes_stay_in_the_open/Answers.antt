use Rattle.edge_cover.proofs.OpenSteps.{open_fixed_bytes_stay}
use Rattle.edge_cover.proofs.laws.fixed_bytes_stay_in_the_open.Goals as goal

pub returns : goal.returns
returns c = record { fixed_bytes = open_fixed_bytes_stay }
