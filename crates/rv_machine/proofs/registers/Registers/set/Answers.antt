use Rattle.std.proofs.Common.{◌<◌, length, arith}
use Rattle.rv_machine.proofs.RegisterWrites.{held-set}
use Rattle.rv_machine.proofs.registers.Registers.set.Goals as goal

pub returns : goal.returns
returns c =
    let within : c.args.r < length c.args.self.now.values = omega (arith, c.args.self.now.whole) in
    held-set c.args.self.now.values c.args.r c.args.v within
