use Rattle.std.proofs.Common.{◌==◌, ◌||◌, not}
use Rattle.live_regs.proofs.Bits.{two_bits}
use Rattle.live_regs.proofs.effects.three.Goals as goal

pub returns : goal.returns
returns c = λ r low.
    two_bits _ _ r (not (r == 0)) (r == c.args.first) (r == c.args.second || r == c.args.third) (c.register.ensures r low)
    (two_bits _ _ r (not (r == 0)) (r == c.args.second) (r == c.args.third) (c.register-2.ensures r low) (c.register-3.ensures r low))
