use Rattle.rv_decode.proofs.Lengths.{each_has_32_bits}
use Rattle.rv_decode.proofs.laws.each_has_32_bits.Goals as goal

pub returns : goal.returns
returns c = each_has_32_bits
