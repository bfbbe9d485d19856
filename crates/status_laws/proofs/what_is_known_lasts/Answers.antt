use Rattle.split_laws.proofs.FactLaws.{facts_last, reasons_last}
use Rattle.split_laws.proofs.AllowedLaws.{allowed_stays_allowed}
use Rattle.status_laws.proofs.what_is_known_lasts.Goals as goal

pub returns : goal.returns
returns c = record { facts = facts_last; reasons = reasons_last; allowed = allowed_stays_allowed }
