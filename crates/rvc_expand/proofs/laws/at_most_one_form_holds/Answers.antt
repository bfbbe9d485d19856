use Rattle.rvc_expand.proofs.OneHolds.{at_most_one_form_holds}
use Rattle.rvc_expand.proofs.laws.at_most_one_form_holds.Goals as goal

pub returns : goal.returns
returns c = at_most_one_form_holds
