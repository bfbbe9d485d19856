use Rattle.std.proofs.Common.{◌&&◌, not, ap, ◌∙◌}
use Rattle.mask_flow.specs.Reaches.{has_bit}
use Rattle.live_regs.proofs.Bits.{lowest_bit}
use Rattle.live_regs.proofs.effects.registers.Goals as goal

pub returns : goal.returns
returns c = λ r low. c.without.ensures r low ∙ ap (λ b. not b && has_bit c.args.mask r) (lowest_bit r)
