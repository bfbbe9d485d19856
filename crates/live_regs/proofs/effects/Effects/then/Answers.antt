use Rattle.std.proofs.Common.{◌||◌, ap, ◌∙◌}
use Rattle.mask_flow.specs.Reaches.{has_bit}
use Rattle.mask_flow.proofs.Bits.{or_bit}
use Rattle.live_regs.proofs.effects.Effects.then.Goals as goal

pub returns-clause-reads : goal.returns-clause-reads
returns-clause-reads c = λ r low. or_bit _ _ r ∙ ap (λ b. has_bit c.args.self.reads r || b) (c.without.ensures r low)

pub returns-clause-writes : goal.returns-clause-writes
returns-clause-writes c = λ r low. or_bit _ _ r
