use Rattle.live_regs.proofs.Bits.{register_bit}
use Rattle.live_regs.proofs.effects.register.Goals as goal

pub returns-then-number-lt32 : goal.returns-then-number-lt32
returns-then-number-lt32 c = λ r low. register_bit c.args.number r c.if-number-gt0.true c.if-number-lt32.true
