use Rattle.rv_decode.proofs.Apart.{each_comes_from_a_row}
use Rattle.rv_decode.proofs.laws.each_comes_from_a_row.Goals as goal

pub returns : goal.returns
returns c = each_comes_from_a_row
