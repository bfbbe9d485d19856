-- A file has one graph, under the one way to cut its jump tables.
use Rattle.std.specs.Prelude.{◌≡◌, ℕ, List}
use Rattle.cfg_model.specs.declared.graph.Graph.{Graph}
use Rattle.code_view.specs.Cuts.{Counts}
use Rattle.file_program.specs.FileGraph.{AreCutsOf, IsGraphOf}

-- The tables of a file are cut in one way.
abbrev pub CutsAreUnique : Type 0
CutsAreUnique = (bytes : List ℕ) (one other : Counts) → AreCutsOf bytes one → AreCutsOf bytes other
    → one ≡ other

-- Two graphs of one file are equal.
abbrev pub FileGraphIsUnique : Type 0
FileGraphIsUnique = (bytes : List ℕ) (one other : Graph) → IsGraphOf bytes one
    → IsGraphOf bytes other → one ≡ other
