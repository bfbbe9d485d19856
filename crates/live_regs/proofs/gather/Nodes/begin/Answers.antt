use Rattle.live_regs.proofs.Gathered.{none_gathered, more_gathered}
use Rattle.live_regs.proofs.gather.Nodes.begin.Goals as goal

pub loop-place-init : goal.loop-place-init
loop-place-init c = none_gathered _ _ _ _ _ c.clear.ensures.items c.clear-2.ensures.items c.clear-3.ensures.items

pub loop-place-preserved : goal.loop-place-preserved
loop-place-preserved c = more_gathered _ _ _ _ _ _ _ c.loop-place.invariant c.in_ok-add.ensures
