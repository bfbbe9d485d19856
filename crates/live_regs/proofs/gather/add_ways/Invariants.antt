use Rattle.std.proofs.Common.{take}
use Rattle.live_regs.specs.Inner.{AddsWays}
use Rattle.live_regs.proofs.gather.add_ways.Given as goal

abbrev pub invariant-loop-edge : goal.invariant-loop-edge
invariant-loop-edge l = AddsWays (take l.edge-index l.edges) l.body l.place l.initial.ways.items l.ways.items l.leaves
