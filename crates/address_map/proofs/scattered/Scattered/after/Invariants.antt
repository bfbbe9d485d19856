use Rattle.address_map.proofs.KeysAfter.{IsAt, numbers_left}
use Rattle.address_map.proofs.scattered.Scattered.after.Given as goal

abbrev pub invariant-chunks : goal.invariant-chunks
invariant-chunks g l = IsAt l.self l.fn.a l.next

abbrev pub decreases-chunks : goal.decreases-chunks
decreases-chunks g l = numbers_left l.next
