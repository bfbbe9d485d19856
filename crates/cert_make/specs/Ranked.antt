-- What has a rank.
use Rattle.std.specs.Prelude.{ℕ, ◌↔◌, List}
use Rattle.cfg_model.specs.Program.Instructions.{InstructionMap}
use Rattle.cfg_model.specs.Program.Chain.{IsTerminator}
use Rattle.cfg_model.specs.Program.Status.{Returns}
use Rattle.cfg_model.specs.Graph.Leader.{IsLeader}
use Rattle.cert_make.specs.Rank.{ReturnsBelow, LeadsBelow}

-- The terminators with ranks are exactly those that return.
abbrev pub ReturnsHaveRanks : Type 0
ReturnsHaveRanks =
    (map : InstructionMap) (k : ℕ) → IsTerminator map k
    → Returns map k ↔ ((rank : ℕ) × ReturnsBelow map rank k)

-- The addresses with ranks are exactly the leaders.
abbrev pub LeadersHaveRanks : Type 0
LeadersHaveRanks =
    (map : InstructionMap) (seeds : List ℕ) (a : ℕ)
    → IsLeader map seeds a ↔ ((rank : ℕ) × LeadsBelow map seeds rank a)
