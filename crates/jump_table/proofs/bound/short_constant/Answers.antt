use Rattle.std.proofs.Common.{sym, ◌∙◌}
use Rattle.jump_table.specs.Inner.Operands.{HasOperands}
use Rattle.jump_table.proofs.Operands.{operands_fit}
use Rattle.jump_table.proofs.Targets.{there}
use Rattle.jump_table.proofs.bound.short_constant.Goals as goal

pub constant_of-requires : goal.constant_of-requires
constant_of-requires c =
    there _ c.in_ok-decode.field-0 HasOperands (sym c.decode.ensures ∙ c.in_ok-decode.was) (operands_fit c.in_ok-expand.field-0)
