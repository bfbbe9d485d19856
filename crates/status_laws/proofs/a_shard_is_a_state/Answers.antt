use Rattle.status_laws.proofs.PartLaws.{steps_stay_in_shard, parts_are_shown, facts_read_back, reasons_grow}
use Rattle.status_laws.proofs.a_shard_is_a_state.Goals as goal

pub returns : goal.returns
returns c = record { steps = steps_stay_in_shard; shown = parts_are_shown; back = facts_read_back; reasons = reasons_grow }
