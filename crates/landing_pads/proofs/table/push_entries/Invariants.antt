use Rattle.std.proofs.Common.{◌++◌, length}
use Rattle.landing_pads.specs.Inner.{place_of}
use Rattle.landing_pads.specs.Table.{ranges_of, entries}
use Rattle.landing_pads.proofs.Walks.{EntriesLeft}
use Rattle.landing_pads.proofs.table.push_entries.Given as goal

abbrev pub invariant-loop-e : goal.invariant-loop-e
invariant-loop-e l =
    EntriesLeft l.start l.base l.encoding (l.fn.ranges.items ++ ranges_of l.start l.base (entries l.encoding (place_of l.entries)))
    l.ranges.items (place_of l.rest)

abbrev pub decreases-loop-e : goal.decreases-loop-e
decreases-loop-e l = length l.rest.bytes.now
