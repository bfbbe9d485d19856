-- Ranks: how many steps of reasons lead to a line.
use Rattle.std.specs.Prelude.{ℕ, zero, suc, List}
use Rattle.cert_text.specs.declared.lines.ReturnWhy.{ReturnWhy}
use Rattle.cert_text.specs.declared.lines.LeadWhy.{LeadWhy}
use Rattle.cfg_model.specs.Program.Instructions.{InstructionMap}
use Rattle.cert_make.specs.Reason.{ReturnsFor, LeadsFor}

-- The terminator k has a rank below this one: a reason that rests on ranks below the one before it.
unfoldable pub ReturnsBelow : InstructionMap → ℕ → ℕ → Type 0
ReturnsBelow map zero k = ⊥
ReturnsBelow map (suc rank) k = (why : ReturnWhy) × ReturnsFor map (ReturnsBelow map rank) k why

-- The same of the leader a.
unfoldable pub LeadsBelow : InstructionMap → List ℕ → ℕ → ℕ → Type 0
LeadsBelow map seeds zero a = ⊥
LeadsBelow map seeds (suc rank) a =
    (why : LeadWhy) × LeadsFor map seeds (LeadsBelow map seeds rank) a why

-- The rank is the least for which there is a reason that rests on lower ranks.
pub record IsRank (Below : ℕ → ℕ → Type 0) (a rank : ℕ) : Type 0 where
  pub has : Below (suc rank) a
  pub least : ¬ Below rank a
