use Rattle.core_state.proofs.EndChanges.{none_displaced}
use Rattle.core_state.proofs.end.End.least_moved.Goals as goal

pub returns-in-Near : goal.returns-in-Near
returns-in-Near c = none_displaced _ _ c.in-Near.is _ c.self.view_is
