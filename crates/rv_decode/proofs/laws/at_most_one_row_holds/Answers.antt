use Rattle.rv_decode.proofs.Apart.{at_most_one_row_holds}
use Rattle.rv_decode.proofs.laws.at_most_one_row_holds.Goals as goal

pub returns : goal.returns
returns c = at_most_one_row_holds
