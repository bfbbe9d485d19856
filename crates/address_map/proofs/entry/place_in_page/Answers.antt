use Rattle.std.proofs.Common.{arith, ap, ◌∙◌, ◌-◌, get_or}
use Rattle.address_map.proofs.EntriesLinked.{sought_first, none_sought, less_left, sought_on, found_sought}
use Rattle.address_map.proofs.entry.place_in_page.Goals as goal

pub loop-left-init : goal.loop-left-init
loop-left-init g c = sought_first _ _ c.requires c.args.k c.up_to-left.result (c.up_to-left.ensures ∙ ap (λ p. get_or c.args.upto.now p 0) c.page.ensures)

pub returns-then-entry-k-clause-some : goal.returns-then-entry-k-clause-some
returns-then-entry-k-clause-some g c =
    found_sought _ _ c.requires c.args.k c.loop-left.left (c.loop-left.left - 1) c.index-entries-left.result (omega arith) (omega arith) c.index-entries-left.is c.loop-left.invariant c.if-entry-k.true

pub loop-left-smaller : goal.loop-left-smaller
loop-left-smaller g c = less_left _ _ c.requires _ c.loop-left.left (c.loop-left.left - 1) c.index-entries-left.result (omega arith) (omega arith) c.index-entries-left.is c.loop-left.invariant.way

pub loop-left-preserved : goal.loop-left-preserved
loop-left-preserved g c = sought_on _ _ c.requires c.args.k c.loop-left.left (c.loop-left.left - 1) c.index-entries-left.result (omega arith) (omega arith) c.index-entries-left.is c.loop-left.invariant c.if-entry-k.false

pub returns-clause-none : goal.returns-clause-none
returns-clause-none g c = none_sought _ _ c.requires c.args.k c.loop-left.left (omega arith) c.loop-left.invariant
