use Rattle.std.proofs.Common.{arith}
use Rattle.core_state.proofs.LowBits.{lowest_set}
use Rattle.core_state.proofs.line.lowest.Goals as goal

pub returns : goal.returns
returns c = lowest_set c.args.bits c.args.a c.first_of.result c.from.result (omega (arith, c.if-bits-eq0.false)) c.ranges.bits.fits c.first_of.ensures c.from.ensures
