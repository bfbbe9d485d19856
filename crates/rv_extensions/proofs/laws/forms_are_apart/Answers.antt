use Rattle.rv_extensions.proofs.FormsApart.{forms_are_apart}
use Rattle.rv_extensions.proofs.laws.forms_are_apart.Goals as goal

pub returns : goal.returns
returns c = forms_are_apart
