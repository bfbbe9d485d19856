use Rattle.std.proofs.Common.{◌<◌, length, arith}
use Rattle.jump_table.proofs.Writes.{held-set}
use Rattle.jump_table.proofs.values.Registers.set.Goals as goal

pub returns : goal.returns
returns c =
    let within : c.args.rd < length c.args.self.now.values = omega (arith, c.args.self.now.whole) in
    held-set c.args.self.now.values c.args.rd c.args.value within
