use Rattle.std.proofs.Common.{ap, ◌∙◌}
use Rattle.std.specs.Prelude.{is_some}
use Rattle.core_state.proofs.WaiterChanges.{waiter_there}
use Rattle.core_state.proofs.crowd.Crowd.has.Goals as goal

pub returns : goal.returns
returns c = c.contains_key.ensures ∙ ap is_some (waiter_there _ _ c.self.view_is c.args.w)
