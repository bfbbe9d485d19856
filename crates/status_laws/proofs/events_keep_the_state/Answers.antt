use Rattle.status_laws.proofs.KeptLaws.{empty_is_kept, events_keep_kept}
use Rattle.status_laws.proofs.events_keep_the_state.Goals as goal

pub returns : goal.returns
returns c = record { empty = empty_is_kept; each = events_keep_kept }
