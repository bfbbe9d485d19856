use Rattle.core_state.specs.inner.Remaining.{LeftAtEnd}
use Rattle.core_state.proofs.AmongShards.{some_work, no_work}
use Rattle.core_state.proofs.ends.Ends.left.Goals as goal

pub returns-clause-some : goal.returns-clause-some
returns-clause-some c = some_work (LeftAtEnd c.args.state.now.maps.starts) _ _ c.self.view_is c.find_by.result c.find_by.ensures.some

pub returns-clause-none : goal.returns-clause-none
returns-clause-none c = no_work (LeftAtEnd c.args.state.now.maps.starts) _ _ c.self.view_is c.find_by.result c.find_by.ensures.none
