use Rattle.live_regs.proofs.Operands.{effects_off}
use Rattle.live_regs.proofs.words.effects_of_short.Goals as goal

pub returns : goal.returns
returns c = effects_off c.args.extensions.now c.args.word _ c.effects_of_rv64gc.ensures
