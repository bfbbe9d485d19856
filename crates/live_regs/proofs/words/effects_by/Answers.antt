use Rattle.std.proofs.Common.{◌==◌, not}
use Rattle.live_regs.proofs.Bits.{two_bits}
use Rattle.live_regs.proofs.words.effects_by.Goals as goal

pub returns-clause-reads : goal.returns-clause-reads
returns-clause-reads c = λ r low. two_bits _ _ r (not (r == 0)) (r == c.args.rs1) (r == c.args.rs2) (c.register.ensures r low) (c.register-2.ensures r low)
