use Rattle.split_laws.proofs.StepLaws.{meeting_is_unique}
use Rattle.split_laws.proofs.chains_meet_once.Goals as goal

pub returns : goal.returns
returns c = meeting_is_unique
