use Rattle.status_laws.proofs.SoundLaws.{kept_is_sound, sound_facts_hold, events_keep_sound}
use Rattle.status_laws.proofs.what_is_known_is_true.Goals as goal

pub returns : goal.returns
returns c = record { kept = kept_is_sound; facts = sound_facts_hold; each = events_keep_sound }
