use Rattle.std.proofs.Common.{subst}
use Rattle.cfg_model.specs.Program.Instructions.{InstructionMap, IsLawful}
use Rattle.work_ops.proofs.code.ask.Goals as goal

pub returns : goal.returns
returns g c = subst (λ (m : InstructionMap). IsLawful m) c.requires c.has.ensures.lawful
