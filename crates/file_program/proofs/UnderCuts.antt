-- The program of a file under cuts, by other names for its bytes, cuts and seeds.
use Rattle.std.proofs.Common.{◌≡◌, ◌∙◌, ℕ, List, ap, subst}
use Rattle.elf_image.specs.Header.{entry}
use Rattle.elf_image.specs.Seeds.{seeds}
use Rattle.cfg_model.specs.declared.graph.Graph.{Graph}
use Rattle.cfg_model.specs.Program.Instructions.{InstructionMap}
use Rattle.cfg_model.specs.Graph.Graph.{IsGraph}
use Rattle.code_view.specs.Cuts.{Counts, cut_of}
use Rattle.code_view.specs.FileCode.{FileCode, program_of}
use Rattle.code_view.specs.Program.{program_under}
use Rattle.file_program.specs.FileGraph.{cut_program, IsGraphUnder}

-- The program of code with these bytes under these cuts.
pub program-is : (bytes : List ℕ) (cuts : Counts) (code : FileCode) → code.bytes ≡ bytes → code.cuts ≡ cuts → program_of code ≡ cut_program bytes cuts
program-is bytes cuts code same under = ap (λ (b : List ℕ). program_under b (cut_of code.cuts)) same ∙ ap (λ (c : Counts). program_under bytes (cut_of c)) under

-- The graph of the program under the cuts.
pub graph-under : (bytes from : List ℕ) (start : ℕ) (program : InstructionMap) (cuts : Counts) (graph : Graph)
    → program ≡ cut_program bytes cuts → from ≡ seeds bytes → start ≡ entry bytes → IsGraph program from start graph → IsGraphUnder bytes cuts graph
graph-under bytes from start program cuts graph same all first is =
    subst (λ (p : InstructionMap). IsGraph p (seeds bytes) (entry bytes) graph) same
    (subst (λ (s : List ℕ). IsGraph program s (entry bytes) graph) all
    (subst (λ (a : ℕ). IsGraph program from a graph) first is))
