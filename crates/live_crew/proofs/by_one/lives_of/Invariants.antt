use Rattle.std.proofs.Common.{take}
use Rattle.live_regs.specs.Masks.{AreAllLivesOf}
use Rattle.live_crew.proofs.by_one.lives_of.Given as goal

abbrev pub invariant-loop-function : goal.invariant-loop-function
invariant-loop-function l = AreAllLivesOf l.program.image.now l.program.blocks.now l.program.edges.now (take l.function-index l.functions) l.all.items
