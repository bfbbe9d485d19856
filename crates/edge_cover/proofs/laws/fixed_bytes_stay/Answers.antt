use Rattle.edge_cover.proofs.FixedBytes.{fixed_bytes_stay}
use Rattle.edge_cover.proofs.laws.fixed_bytes_stay.Goals as goal

pub returns : goal.returns
returns c = record { fixed_bytes = fixed_bytes_stay }
