use Rattle.rv_machine.proofs.RegisterWrites.{held-at_start}
use Rattle.rv_machine.proofs.registers.Registers.at_start.Goals as goal

pub returns : goal.returns
returns c = held-at_start c.args.stack
