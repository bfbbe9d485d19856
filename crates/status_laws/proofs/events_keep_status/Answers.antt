use Rattle.status_laws.proofs.StatusLaws as laws
use Rattle.status_laws.proofs.events_keep_status.Goals as goal

pub returns : goal.returns
returns c = laws.events_keep_status
