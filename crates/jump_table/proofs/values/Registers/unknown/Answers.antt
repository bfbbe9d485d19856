use Rattle.jump_table.proofs.Writes.{held-all_unknown}
use Rattle.jump_table.proofs.values.Registers.unknown.Goals as goal

pub returns : goal.returns
returns c = held-all_unknown
