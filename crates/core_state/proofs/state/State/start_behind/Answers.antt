use Rattle.std.proofs.Common.{ap}
use Rattle.core_state.specs.Counted.{CountedState}
use Rattle.core_state.proofs.LineJoined.{line_joined}
use Rattle.core_state.proofs.state.State.start_behind.Goals as goal

pub returns : goal.returns
returns c =
    line_joined _ c.self.invariant.0 c.args.a _ c.shard.ensures _ c.index.ensures _ (ap (λ (s : CountedState). s.maps.starts) c.self.view_is) c.start_behind.result c.start_behind.ensures
