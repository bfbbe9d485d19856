use Rattle.std.proofs.Common.{◌%◌}
use Rattle.std.specs.Int.{w64}
use Rattle.std.proofs.lemmas.Nat.Bits.{bit_at_clear_same, bit_at_clear_other}
use Rattle.core_state.proofs.LowBits.{low}
use Rattle.core_state.proofs.line.without_bit.Goals as goal

pub returns-clause-here : goal.returns-clause-here
returns-clause-here c = bit_at_clear_same w64 c.args.bits (c.args.a % 64) (low c.args.a)

pub returns-clause-others : goal.returns-clause-others
returns-clause-others c = λ i within apart. bit_at_clear_other w64 c.args.bits (c.args.a % 64) (low c.args.a) i within apart
