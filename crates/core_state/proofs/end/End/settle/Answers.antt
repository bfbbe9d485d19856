use Rattle.core_state.proofs.EndChanges.{none_settled}
use Rattle.core_state.proofs.end.End.settle.Goals as goal

pub returns-in-Near : goal.returns-in-Near
returns-in-Near c = none_settled _ _ c.in-Near.is _ c.self.view_is c.args.x
