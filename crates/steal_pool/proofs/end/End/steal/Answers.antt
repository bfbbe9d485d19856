use Rattle.steal_pool.proofs.Rules.{takes}
use Rattle.steal_pool.proofs.end.End.steal.Goals as goal

pub steal_as-requires-clause-takes : goal.steal_as-requires-clause-takes
steal_as-requires-clause-takes c = takes _ _ c.requires.part
