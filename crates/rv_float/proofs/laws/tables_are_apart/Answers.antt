use Rattle.rv_float.proofs.TablesApart.{tables_are_apart}
use Rattle.rv_float.proofs.laws.tables_are_apart.Goals as goal

pub returns : goal.returns
returns c = tables_are_apart
