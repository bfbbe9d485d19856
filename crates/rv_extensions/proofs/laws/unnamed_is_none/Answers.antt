use Rattle.rv_extensions.proofs.Tables.{unnamed_is_none}
use Rattle.rv_extensions.proofs.laws.unnamed_is_none.Goals as goal

pub returns : goal.returns
returns c = unnamed_is_none
