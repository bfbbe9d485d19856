-- The graph of a file: the least closure from its seeds under its table cuts.
use Rattle.std.specs.Prelude.{ℕ, List}
use Rattle.elf_image.specs.Header.{entry}
use Rattle.elf_image.specs.Seeds.{seeds}
use Rattle.cfg_model.specs.declared.graph.Graph.{Graph}
use Rattle.cfg_model.specs.Program.Instructions.{InstructionMap}
use Rattle.cfg_model.specs.Program.Cuts.{AreCuts}
use Rattle.cfg_model.specs.Graph.Graph.{IsGraph}
use Rattle.code_view.specs.Cuts.{Counts, cut_of}
use Rattle.code_view.specs.Program.{program_under}
use Rattle.table_cuts.specs.Extents.{extent_at}

-- The program of the file under these cuts.
abbrev pub cut_program : List ℕ → Counts → InstructionMap
cut_program bytes cuts = program_under bytes (cut_of cuts)

-- The cuts of the file's jump tables, reached or not.
abbrev pub AreCutsOf : List ℕ → Counts → Type 0
AreCutsOf bytes cuts = AreCuts (extent_at bytes) (cut_of cuts)

-- The graph of the file's program under these cuts, from its seeds.
abbrev pub IsGraphUnder : List ℕ → Counts → Graph → Type 0
IsGraphUnder bytes cuts graph = IsGraph (cut_program bytes cuts) (seeds bytes) (entry bytes) graph

-- The graph of the file: the least closure from its seeds under the cuts of its tables, as
-- functions, basic blocks and edges.
pub record IsGraphOf (bytes : List ℕ) (graph : Graph) : Type 0 where
  pub cuts : Counts
  pub are_cuts : AreCutsOf bytes cuts
  pub is_graph : IsGraphUnder bytes cuts graph
