use Rattle.rv_flow.proofs.Written.{each_word_is_its_instruction}
use Rattle.rv_flow.proofs.laws.each_word_is_its_instruction.Goals as goal

pub returns : goal.returns
returns c = each_word_is_its_instruction
