use Rattle.cfg_model.specs.Program.Chain.{OnChain}
use Rattle.test_graph.proofs.RowChains.{from_0, from_2, from_last}
use Rattle.test_graph.proofs.work_left.displaced_starts_are_found.Goals as goal

pub find_displaced-requires-clause-first : goal.find_displaced-requires-clause-first
find_displaced-requires-clause-first g c κs = from_0

pub find_displaced-requires-clause-second : goal.find_displaced-requires-clause-second
find_displaced-requires-clause-second g c κs = from_2

pub find_displaced-requires-2-clause-first : goal.find_displaced-requires-2-clause-first
find_displaced-requires-2-clause-first g c κs = from_last

pub find_displaced-requires-2-clause-second : goal.find_displaced-requires-2-clause-second
find_displaced-requires-2-clause-second g c κs = OnChain.here
