use Rattle.rv_extensions.proofs.TablesApart.{tables_are_apart}
use Rattle.rv_extensions.proofs.laws.tables_are_apart.Goals as goal

pub returns : goal.returns
returns c = tables_are_apart
