use Rattle.live_regs.proofs.Noted.{AreEffectsTo}
use Rattle.live_regs.proofs.program.effects_of_piece.Given as goal

abbrev pub invariant-loop-number : goal.invariant-loop-number
invariant-loop-number l = AreEffectsTo l.image l.blocks l.first l.number l.all.items
