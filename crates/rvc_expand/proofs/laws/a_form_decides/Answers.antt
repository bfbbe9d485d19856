use Rattle.rvc_expand.proofs.OneHolds.{a_form_decides}
use Rattle.rvc_expand.proofs.laws.a_form_decides.Goals as goal

pub returns : goal.returns
returns c = a_form_decides
