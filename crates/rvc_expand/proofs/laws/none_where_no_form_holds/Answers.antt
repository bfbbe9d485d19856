use Rattle.rvc_expand.proofs.OneHolds.{none_where_no_form_holds}
use Rattle.rvc_expand.proofs.laws.none_where_no_form_holds.Goals as goal

pub returns : goal.returns
returns c = none_where_no_form_holds
