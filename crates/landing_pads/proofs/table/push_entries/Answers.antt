use Rattle.std.proofs.Common.{sym}
use Rattle.landing_pads.specs.Inner.{place_of}
use Rattle.landing_pads.proofs.Walks.{entries-start, entries-more}
use Rattle.landing_pads.proofs.table.push_entries.Goals as goal

pub loop-e-init : goal.loop-e-init
loop-e-init c = entries-start c.args.start c.args.base c.args.encoding c.args.ranges.now.items (place_of c.args.entries)

pub loop-e-preserved : goal.loop-e-preserved
loop-e-preserved c =
    entries-more c.args.start c.args.base c.args.encoding _ c.loop-e.ranges.items c.push_entry.new.ranges.items c.in-Some.e (place_of c.loop-e.rest) (place_of c.in-Some.after)
    (sym c.in-Some.ensures.value) c.in-Some.ensures.shorter c.in_ok-push_entry.ensures c.loop-e.invariant
