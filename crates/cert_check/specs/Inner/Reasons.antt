-- What the reasons of leaders are tested by.
use Rattle.std.specs.Prelude.{ℕ}
use Rattle.std.specs.List.Sorted.{IsStrictlyIncreasing}
use Rattle.cfg_model.specs.Program.Instructions.{InstructionMap, IsLawful}
use Rattle.cert_ends.specs.Places.{AreLeads}
use Rattle.cert_check.specs.declared.leads.Reasons.{Reasons}
use Rattle.cert_check.specs.Inner.Blocks.{AreBlocks}
use Rattle.cert_check.specs.Inner.Jumps.{AreJumps}
use Rattle.cert_check.specs.Inner.Ways.{AreWays}

-- It is of the part, whose leaders rise and stand in the code.
pub record AreReasons (map : InstructionMap) (number : ℕ → ℕ) (reasons : Reasons) : Type 0 where
  pub lawful : IsLawful map
  pub leads : AreLeads map reasons.part.now.leads
  pub seeds : IsStrictlyIncreasing reasons.seeds.now
  pub blocks : AreBlocks map number reasons.part.now.leads reasons.blocks.now
  pub edges : AreWays map reasons.part.now.leads reasons.part.now.returns reasons.edges.now
  pub jumps : AreJumps reasons.blocks.now.runs.items reasons.jumps.now 0
