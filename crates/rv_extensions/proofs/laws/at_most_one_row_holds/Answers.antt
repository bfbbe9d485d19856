use Rattle.rv_extensions.proofs.Tables.{at_most_one_row_holds}
use Rattle.rv_extensions.proofs.laws.at_most_one_row_holds.Goals as goal

pub returns : goal.returns
returns c = at_most_one_row_holds
