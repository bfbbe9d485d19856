use Rattle.rv_decode.proofs.Apart.{none_where_no_row_holds}
use Rattle.rv_decode.proofs.laws.none_where_no_row_holds.Goals as goal

pub returns : goal.returns
returns c = none_where_no_row_holds
