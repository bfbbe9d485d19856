use Rattle.std.proofs.Common.{arith, ◌-◌}
use Rattle.address_map.proofs.EntriesLinked.{least_first, least_of_page, less_left, least_on}
use Rattle.address_map.proofs.entry.least_in_page.Goals as goal

pub loop-left-init : goal.loop-left-init
loop-left-init g c = least_first _ _ c.requires c.args.page c.args.a c.up_to-left.result c.up_to-left.ensures

pub loop-left-smaller : goal.loop-left-smaller
loop-left-smaller g c = less_left _ _ c.requires _ c.loop-left.left (c.loop-left.left - 1) c.index-entries-left.result (omega arith) (omega arith) c.index-entries-left.is c.loop-left.invariant.way

pub loop-left-preserved : goal.loop-left-preserved
loop-left-preserved g c =
    least_on _ _ c.requires c.args.page c.args.a c.loop-left.left (c.loop-left.left - 1) c.index-entries-left.result (omega arith) (omega arith) c.index-entries-left.is c.loop-left.least c.loop-left.invariant
    c.with_above-least.result c.with_above-least.ensures.above c.with_above-least.ensures.not_above

pub returns : goal.returns
returns g c = least_of_page _ _ c.requires c.args.page c.args.a c.loop-left.left c.loop-left.least (omega arith) c.loop-left.invariant
