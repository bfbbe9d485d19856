use Rattle.jump_table.proofs.Operands.{operands_fit}
use Rattle.jump_table.proofs.step.whole_insn_at.Goals as goal

pub returns-in_ok-word_at-clause-operands : goal.returns-in_ok-word_at-clause-operands
returns-in_ok-word_at-clause-operands c = rw c.decode.ensures (operands_fit c.in_ok-word_at.field-0)
