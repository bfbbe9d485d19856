-- What is in the report of a file, and laws of it.
use Rattle.std.specs.Prelude.{◌≡◌, ℕ, ◌<◌, List, All, Contains, Option, None}
use Rattle.elf_image.specs.Faults.{first_fault}
use Rattle.elf_image.specs.Header.{entry}
use Rattle.elf_image.specs.Seeds.{seeds}
use Rattle.cfg_model.specs.declared.graph.Graph.{Graph}
use Rattle.code_view.specs.Cuts.{cut_of}
use Rattle.file_program.specs.FileGraph.{IsGraphOf}
use Rattle.edge_cover.specs.Cover.{IsOutlineOfFile}
use Rattle.free_laws.specs.Free.{IsGraphOfFile}
use Rattle.run_laws.specs.Outline.{outline_of}

-- This is the graph in the report of a file: the file has no fault, and the graph is its own. The
-- numbers of a file are bytes.
pub record IsReported (bytes : List ℕ) (graph : Graph) : Type 0 where
  pub no_fault : first_fault bytes ≡ None
  pub is_graph : IsGraphOf bytes graph
  pub numbers : All (λ byte. byte < 256) bytes

-- The table cuts under which a report was made.
abbrev pub cuts_of : {bytes : List ℕ} {graph : Graph} → IsReported bytes graph → ℕ → Option ℕ
cuts_of is = cut_of is.is_graph.cuts

-- Such a law holds of every report.
abbrev pub OfEachReport : (List ℕ → (ℕ → Option ℕ) → List ℕ → Graph → Type 0) → Type 0
OfEachReport Law =
    (bytes : List ℕ) (graph : Graph) (is : IsReported bytes graph)
    → Law bytes (cuts_of is) (seeds bytes) graph

-- It is the graph of the program of an accepted file, under cuts that fit and from its seeds.
abbrev pub ReportsAreOfFiles : Type 0
ReportsAreOfFiles = OfEachReport (λ bytes cuts seeds graph. IsGraphOfFile bytes cuts seeds graph)

-- The entry of the file is one of its seeds.
abbrev pub EntriesAreSeeds : Type 0
EntriesAreSeeds = (bytes : List ℕ) → Contains (seeds bytes) (entry bytes)

-- Its blocks and edges, before tail calls are marked, are the outline of that program.
abbrev pub ReportsHaveOutlines : Type 0
ReportsHaveOutlines =
    OfEachReport (λ bytes cuts seeds graph. IsOutlineOfFile bytes cuts seeds (outline_of graph))
