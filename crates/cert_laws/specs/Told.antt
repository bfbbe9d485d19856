-- The blocks and edges that the lines of a part of a certificate tell.
use Rattle.std.specs.Prelude.{ℕ, List}
use Rattle.cfg_model.specs.declared.graph.Block.{Block}
use Rattle.cfg_model.specs.declared.graph.Edge.{Edge}
use Rattle.cfg_model.specs.Program.Instructions.{InstructionMap, IsLawful}
use Rattle.cfg_model.specs.Graph.Block.{IsBlockOf, IsLastOf}
use Rattle.cfg_model.specs.Graph.Edge.{LeadsTo}
use Rattle.cfg_model.specs.Graph.Graph.{BlockBefore, EdgeBefore, IsOutline}
use Rattle.cfg_model.specs.Graph.Listing.{Lists}
use Rattle.cert_text.specs.declared.lines.LeadLine.{LeadLine}
use Rattle.cert_text.specs.declared.certificate.Part.{Part}
use Rattle.cert_laws.specs.Lines.{IsLead, IsReturn}
use Rattle.cert_laws.specs.Ways.{EndsIn}
use Rattle.cert_laws.specs.Shown.{ShowsLines}

-- A block starts at a listed leader, and is cut at the listed leaders.
pub record IsBlockTold (map : InstructionMap) (leads : List LeadLine) (block : Block) : Type 0 where
  pub last : ℕ
  pub leader : IsLead leads block.start
  pub ends : IsLastOf map (IsLead leads) block.start last
  pub of : IsBlockOf map block.start last block

-- An edge leaves such a block by a way on from its last instruction; a call returns if its target
-- ends in a listed return.
pub record IsEdgeTold (map : InstructionMap) (part : Part) (edge : Edge) : Type 0 where
  pub last : ℕ
  pub from : IsLead part.leads edge.from
  pub ends : IsLastOf map (IsLead part.leads) edge.from last
  pub leads_to : LeadsTo map (EndsIn map (IsReturn part.returns)) last edge.to edge.kind

-- These are all of them.
pub record IsOutlineTold (map : InstructionMap) (part : Part) (blocks : List Block)
    (edges : List Edge) : Type 0 where
  pub all_blocks : Lists BlockBefore (IsBlockTold map part.leads) blocks
  pub all_edges : Lists EdgeBefore (IsEdgeTold map part) edges

-- The blocks and edges that lines tell are those of the program whose leaders and returns they list.
abbrev pub ToldOutlineIsShown : Type 0
ToldOutlineIsShown =
    (map : InstructionMap) (seeds : List ℕ) (part : Part) (blocks : List Block)
    (edges : List Edge) → IsLawful map → ShowsLines map seeds part
    → IsOutlineTold map part blocks edges → IsOutline map seeds blocks edges
