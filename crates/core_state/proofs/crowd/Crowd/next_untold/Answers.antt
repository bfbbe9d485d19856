use Rattle.core_state.proofs.WaiterChanges.{next_of}
use Rattle.core_state.proofs.crowd.Crowd.next_untold.Goals as goal

pub returns : goal.returns
returns c =
    next_of _ _ c.self.invariant c.args.self.now c.self.view_is _ _ c.copied.ensures c.first.ensures.variant.1 c.first.ensures.member c.first.ensures.least
