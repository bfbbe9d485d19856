use Rattle.split_laws.proofs.StepLaws.{step_is_unique}
use Rattle.split_laws.proofs.MeetingLaws.{allowed_event_steps}
use Rattle.split_laws.proofs.a_step_is_determined.Goals as goal

pub returns : goal.returns
returns c = record { unique = step_is_unique; possible = allowed_event_steps }
