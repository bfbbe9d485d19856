use Rattle.core_state.proofs.TermChanges.{next_as}
use Rattle.core_state.proofs.OneShard.{term_there}
use Rattle.core_state.proofs.state.State.untold.Goals as goal

pub returns : goal.returns
returns c = next_as _ _ c.args.k (term_there c.self.invariant c.self.view_is c.args.k c.shard.ensures c.index.ensures) _ c.untold.ensures
