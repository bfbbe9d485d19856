use Rattle.address_map.proofs.EntriesLinked.{IsLeastBehind}
use Rattle.address_map.proofs.entry.least_in_page.Given as goal

abbrev pub invariant-loop-left : goal.invariant-loop-left
invariant-loop-left g l = IsLeastBehind l.entries l.page l.a l.left l.least

abbrev pub decreases-loop-left : goal.decreases-loop-left
decreases-loop-left g l = l.left
