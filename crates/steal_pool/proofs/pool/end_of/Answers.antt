use Rattle.steal_pool.proofs.Rules.{parts_off, spares_off}
use Rattle.steal_pool.proofs.pool.end_of.Goals as goal

pub another-pass-requires : goal.another-pass-requires
another-pass-requires c = spares_off _ _

pub another-pass-requires-else-spare : goal.another-pass-requires-else-spare
another-pass-requires-else-spare c = parts_off _ _ c.requires.new.some
