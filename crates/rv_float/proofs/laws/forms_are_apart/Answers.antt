use Rattle.rv_float.proofs.TablesApart.{forms_are_apart}
use Rattle.rv_float.proofs.laws.forms_are_apart.Goals as goal

pub returns : goal.returns
returns c = forms_are_apart
