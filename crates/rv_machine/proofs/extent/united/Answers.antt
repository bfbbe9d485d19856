use Rattle.std.proofs.Common.{arith}
use Rattle.rv_machine.proofs.Apart.{united-more, united-all, whole-sorted}
use Rattle.rv_machine.proofs.extent.united.Goals as goal

pub add-requires-clause-next : goal.add-requires-clause-next
add-requires-clause-next c =
    whole-sorted c.args.extents.items c.sorted_by_start-sorted.result.items c.loop-i.i c.index.result.now c.sorted_by_start-sorted.ensures.permutation c.requires.whole
    (omega arith) c.index.ensures

pub loop-i-preserved : goal.loop-i-preserved
loop-i-preserved c =
    united-more c.sorted_by_start-sorted.result.items c.loop-i.united.items c.add.new.united.items c.loop-i.i c.index.result.now c.sorted_by_start-sorted.ensures.sorted c.loop-i.invariant
    (omega arith) c.index.ensures c.in_ok-add.ensures.whole c.in_ok-add.ensures.apart c.in_ok-add.ensures.start c.in_ok-add.ensures.same

pub returns-clause-same : goal.returns-clause-same
returns-clause-same c =
    united-all c.args.extents.items c.sorted_by_start-sorted.result.items c.loop-i.united.items c.loop-i.i c.sorted_by_start-sorted.ensures.permutation
    (omega arith) c.loop-i.invariant
