use Rattle.core_state.proofs.WaiterChanges.{none_untold}
use Rattle.core_state.proofs.crowd.Crowd.new.Goals as goal

pub invariant_of-result : goal.invariant_of-result
invariant_of-result c = rw (c.new.ensures.empty, c.new-2.ensures.empty) none_untold
