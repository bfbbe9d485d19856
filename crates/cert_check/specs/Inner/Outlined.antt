-- The blocks and edges that are made of a part.
use Rattle.std.specs.Prelude.{◌≡◌, ℕ, ◌<◌, List, length, slice_index_or}
use Rattle.cfg_model.specs.declared.graph.Block.{Block}
use Rattle.cfg_model.specs.declared.graph.Outline.{Outline}
use Rattle.cfg_model.specs.Program.Instructions.{InstructionMap}
use Rattle.cfg_model.specs.Graph.Block.{IsBlockOf}
use Rattle.cert_text.specs.declared.lines.LeadLine.{LeadLine}
use Rattle.cert_text.specs.declared.certificate.Part.{Part}
use Rattle.cert_check.specs.declared.blocks.Run.{Run}
use Rattle.cert_check.specs.Inner.Blocks.{AreRuns}
use Rattle.cert_check.specs.Inner.Ways.{AreWays}

-- The block of each leader, as far as its last address is known, in the order of the leaders.
pub record AreMade (map : InstructionMap) (leads : List LeadLine) (runs : List Run) (count : ℕ)
    (blocks : List Block) : Type 0 where
  pub as_many : length blocks ≡ count
  pub each : (i : ℕ) (l : LeadLine) (r : Run) (b : Block) → i < count
      → IsBlockOf map (slice_index_or leads i l).at (slice_index_or runs i r).last (slice_index_or blocks i b)

-- The outline has the blocks of all listed leaders, and the edges from them.
pub record AreOutlined (map : InstructionMap) (part : Part) (outline : Outline) : Type 0 where
  pub runs : List Run
  pub are : AreRuns map part.leads runs
  pub made : AreMade map part.leads runs (length part.leads) outline.blocks
  pub edges : AreWays map part.leads part.returns outline.edges
