use Rattle.std.proofs.Common.{◌∙◌}
use Rattle.core_state.proofs.OneShard.{start_there}
use Rattle.core_state.proofs.state.State.start.Goals as goal

pub returns : goal.returns
returns c = c.start.ensures ∙ start_there c.self.invariant c.self.view_is c.args.s c.shard.ensures c.index.ensures
