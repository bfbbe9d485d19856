-- A program has one graph.
use Rattle.std.specs.Prelude.{◌≡◌, ℕ, List}
use Rattle.cfg_model.specs.declared.graph.Block.{Block}
use Rattle.cfg_model.specs.declared.graph.Edge.{Edge}
use Rattle.cfg_model.specs.declared.graph.Function.{Function}
use Rattle.cfg_model.specs.declared.graph.Graph.{Graph}
use Rattle.cfg_model.specs.Program.Instructions.{InstructionMap}
use Rattle.cfg_model.specs.Graph.Block.{IsBlock}
use Rattle.cfg_model.specs.Graph.Function.{IsFunction}
use Rattle.cfg_model.specs.Graph.Graph.{IsGraph, IsOutline}

-- Two graphs of one program, from the same seeds and with the same entry, are equal.
abbrev pub GraphIsUnique : Type 0
GraphIsUnique =
    (map : InstructionMap) (seeds : List ℕ) (entry : ℕ) (a b : Graph) → IsGraph map seeds entry a
    → IsGraph map seeds entry b → a ≡ b

-- The same of the blocks and edges alone.
abbrev pub OutlineIsUnique : Type 0
OutlineIsUnique =
    (map : InstructionMap) (seeds : List ℕ) (blocks others : List Block) (edges more : List Edge)
    → IsOutline map seeds blocks edges → IsOutline map seeds others more
    → (blocks ≡ others) × (edges ≡ more)

-- Two blocks of one program that start at the same address are equal.
abbrev pub BlockIsUnique : Type 0
BlockIsUnique =
    (map : InstructionMap) (seeds : List ℕ) (a b : Block) → IsBlock map seeds a
    → IsBlock map seeds b → a.start ≡ b.start → a ≡ b

-- Two functions of one program with the same entry are equal.
abbrev pub FunctionIsUnique : Type 0
FunctionIsUnique =
    (map : InstructionMap) (seeds : List ℕ) (f g : Function) → IsFunction map seeds f
    → IsFunction map seeds g → f.entry ≡ g.entry → f ≡ g
