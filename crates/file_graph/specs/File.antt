-- A file with its graph, as contracts see it.
use Rattle.std.specs.Prelude.{◌≡◌, ℕ, List, None}
use Rattle.cfg_model.specs.declared.graph.Graph.{Graph}
use Rattle.elf_image.specs.Faults.{first_fault}
use Rattle.file_program.specs.FileGraph.{IsGraphOf}

-- The bytes of the file, and its graph.
pub record GraphedFile : Type 0 where
  pub bytes : List ℕ
  pub graph : Graph

-- It is the file with these bytes, which have no fault, and with the graph of the file.
pub record IsGraphedFile (bytes : List ℕ) (file : GraphedFile) : Type 0 where
  pub same : file.bytes ≡ bytes
  pub accepted : first_fault bytes ≡ None
  pub graph : IsGraphOf bytes file.graph
