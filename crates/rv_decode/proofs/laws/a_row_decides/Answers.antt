use Rattle.rv_decode.proofs.Apart.{a_row_decides}
use Rattle.rv_decode.proofs.laws.a_row_decides.Goals as goal

pub returns : goal.returns
returns c = a_row_decides
