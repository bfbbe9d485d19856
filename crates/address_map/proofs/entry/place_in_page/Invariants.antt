use Rattle.address_map.proofs.EntriesLinked.{IsSought}
use Rattle.address_map.proofs.entry.place_in_page.Given as goal

abbrev pub invariant-loop-left : goal.invariant-loop-left
invariant-loop-left g l = IsSought l.entries l.k l.left

abbrev pub decreases-loop-left : goal.decreases-loop-left
decreases-loop-left g l = l.left
