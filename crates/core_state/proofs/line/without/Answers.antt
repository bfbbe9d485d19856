use Rattle.std.proofs.Common.{min, ap, ◌∙◌}
use Rattle.std.specs.Int.{w64, bit_at, bit_not}
use Rattle.std.proofs.lemmas.Nat.Bits.{bit_at_and, bit_at_not}
use Rattle.core_state.proofs.line.without.Goals as goal

pub returns : goal.returns
returns c = λ i inside.
    bit_at_and c.args.bits (bit_not w64 c.args.others) i ∙ ap (min (bit_at c.args.bits i)) (bit_at_not w64 c.args.others i c.ranges.others.fits inside)
