use Rattle.live_regs.specs.Run.{instructions_of}
use Rattle.live_regs.proofs.effects.effects_of_block.Goals as goal

pub returns : goal.returns
unfolding instructions_of
returns c = c.effects_between.ensures
