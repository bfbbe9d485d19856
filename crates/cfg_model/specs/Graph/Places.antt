-- In which block of a program an address lies.
use Rattle.std.specs.Prelude.{◌≡◌, ℕ, List, Contains}
use Rattle.cfg_model.specs.declared.graph.Block.{Block}
use Rattle.cfg_model.specs.declared.graph.Edge.{Edge}
use Rattle.cfg_model.specs.Program.Instructions.{InstructionMap, IsLawful}
use Rattle.cfg_model.specs.Program.Reach.{AreSeeds, Reached}
use Rattle.cfg_model.specs.Graph.Leader.{IsLeader}
use Rattle.cfg_model.specs.Graph.Block.{RunsTo}
use Rattle.cfg_model.specs.Graph.Graph.{IsOutline}

-- a lies in this block: it is on the chain of the block's start, and no leader comes after that
-- start up to a.
abbrev pub LiesIn : InstructionMap → List ℕ → Block → ℕ → Type 0
LiesIn map seeds block a = RunsTo map (IsLeader map seeds) block.start a

-- a lies in one of these blocks.
pub record HasABlock (map : InstructionMap) (seeds : List ℕ) (blocks : List Block)
    (a : ℕ) : Type 0 where
  pub block : Block
  pub listed : Contains blocks block
  pub lies : LiesIn map seeds block a

-- Every reachable address lies in a block of the outline.
abbrev pub EachAddressHasABlock : Type 0
EachAddressHasABlock =
    (map : InstructionMap) (seeds : List ℕ) (blocks : List Block) (edges : List Edge) → IsLawful map
    → AreSeeds map seeds → IsOutline map seeds blocks edges → (a : ℕ) → Reached map seeds a
    → HasABlock map seeds blocks a

-- No two blocks of an outline share an address.
abbrev pub BlocksAreApart : Type 0
BlocksAreApart =
    (map : InstructionMap) (seeds : List ℕ) (blocks : List Block) (edges : List Edge) → IsLawful map
    → IsOutline map seeds blocks edges → (one other : Block) → Contains blocks one
    → Contains blocks other → (a : ℕ) → LiesIn map seeds one a → LiesIn map seeds other a
    → one ≡ other
