use Rattle.live_regs.specs.Inner.{HaveNodes}
use Rattle.live_regs.proofs.gather.Nodes.begin.Given as goal

abbrev pub invariant-loop-place : goal.invariant-loop-place
invariant-loop-place l = HaveNodes l.program.image.now l.program.blocks.now l.program.edges.now l.body l.place l.self
