-- A graph of a file is in order, as the search for live registers asks; and what it answers is there
-- for the blocks of each function, as a report asks.
use Rattle.std.proofs.Common.{◌≡◌, ℕ, List, [], ◌∷◌, refl, ap₂}
use Rattle.std.specs.Prelude.{map, All}
use Rattle.std.specs.List.{AllZip}
use Rattle.std.specs.List.Sorted.{IsStrictlyIncreasing}
use Rattle.cfg_model.specs.declared.graph.Block.{Block}
use Rattle.cfg_model.specs.declared.graph.Edge.{Edge}
use Rattle.cfg_model.specs.declared.graph.Function.{Function}
use Rattle.cfg_model.specs.declared.graph.Graph.{Graph}
use Rattle.cfg_model.specs.declared.live.Live.{Live}
use Rattle.elf_image.specs.Header.{entry}
use Rattle.elf_image.specs.Seeds.{seeds}
use Rattle.file_program.specs.FileGraph.{IsGraphOf, cut_program}
use Rattle.graph_report.specs.Live.{AreForAll}
use Rattle.live_regs.specs.Masks.{AreAllLivesOf, IsLiveAt}
use Rattle.live_regs.specs.Noted.{AreInOrder}
use Rattle.live_crew.proofs.Outlines.{bodies_of_graph_rise, order_of_graph}

-- ---- graphs

pub in-order : (bytes : List ℕ) (graph : Graph) → IsGraphOf bytes graph → AreInOrder graph.blocks graph.edges
in-order bytes graph is = order_of_graph (cut_program bytes is.cuts) (seeds bytes) (entry bytes) graph is.is_graph

pub bodies-rise : (bytes : List ℕ) (graph : Graph) → IsGraphOf bytes graph → All (λ f. IsStrictlyIncreasing f.body) graph.functions
bodies-rise bytes graph is = bodies_of_graph_rise (cut_program bytes is.cuts) (seeds bytes) (entry bytes) graph is.is_graph

-- ---- live registers

starts : (P : ℕ → Live → Type 0) → ((s : ℕ) (live : Live) → P s live → live.block ≡ s)
    → (body : List ℕ) (lives : List Live) → AllZip P body lives → map (λ l. l.block) lives ≡ body
starts P is [] [] zipped = refl
starts P is [] (live ∷ lives) zipped = absurd zipped
starts P is (s ∷ body) [] zipped = absurd zipped
starts P is (s ∷ body) (live ∷ lives) zipped = ap₂ (λ x xs. x ∷ xs) (is s live zipped.0) (starts P is body lives zipped.1)

pub for-all : (bytes : List ℕ) (blocks : List Block) (edges : List Edge) (functions : List Function) (lives : List (List Live))
    → AreAllLivesOf bytes blocks edges functions lives → AreForAll functions lives
for-all bytes blocks edges [] [] zipped = tt
for-all bytes blocks edges [] (one ∷ lives) zipped = absurd zipped
for-all bytes blocks edges (f ∷ functions) [] zipped = absurd zipped
for-all bytes blocks edges (f ∷ functions) (one ∷ lives) zipped = (
  starts (IsLiveAt bytes blocks edges f.body) (λ s live is. is.block) f.body one zipped.0,
  for-all bytes blocks edges functions lives zipped.1,
)
