use Rattle.std.proofs.Common.{◌==◌, ◌&&◌, ◌||◌, not, sym, ap, ◌∙◌}
use Rattle.mask_flow.specs.Reaches.{has_bit}
use Rattle.mask_flow.proofs.Bits.{or_bit}
use Rattle.live_regs.proofs.Bits.{all_bit, leaving_bit}
use Rattle.live_regs.proofs.gather.mask_of.Goals as goal

pub returns-then-leaves : goal.returns-then-leaves
returns-then-leaves c = λ r low.
    or_bit _ _ r ∙ (leaving_bit r (has_bit 4294967294 r) (has_bit c.args.effects.writes r) (has_bit c.args.effects.reads r) _ (all_bit r low) (c.without.ensures r low)
    ∙ ap (λ b. has_bit c.args.effects.reads r || (b && not (r == 0) && not (has_bit c.args.effects.writes r))) (sym c.if-leaves.true))
