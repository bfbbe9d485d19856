use Rattle.std.proofs.Common.{arith}
use Rattle.live_regs.proofs.Bits.{without_bit}
use Rattle.live_regs.proofs.effects.without.Goals as goal

pub returns : goal.returns
returns c = λ r low. without_bit c.args.mask c.args.other r (omega (arith, c.ranges.other.fits)) low
