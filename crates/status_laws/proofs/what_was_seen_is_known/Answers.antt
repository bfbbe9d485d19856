use Rattle.status_laws.proofs.BroughtLaws.{events_bring_facts, standing_is_known}
use Rattle.status_laws.proofs.what_was_seen_is_known.Goals as goal

pub returns : goal.returns
returns c = record { brought = events_bring_facts; read = standing_is_known }
