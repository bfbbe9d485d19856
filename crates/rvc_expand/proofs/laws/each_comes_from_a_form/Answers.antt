use Rattle.rvc_expand.proofs.OneHolds.{each_comes_from_a_form}
use Rattle.rvc_expand.proofs.laws.each_comes_from_a_form.Goals as goal

pub returns : goal.returns
returns c = each_comes_from_a_form
