-- Where the blocks of a part lead.
use Rattle.std.specs.Prelude.{◌≡◌, ◌↔◌, ℕ, Bool, ◌||◌, ◌&&◌, nat_eq, nat_lt, List, AllPairs, Contains}
use Rattle.cfg_model.specs.declared.graph.Edge.{Edge}
use Rattle.cfg_model.specs.Program.Instructions.{InstructionMap}
use Rattle.cfg_model.specs.Graph.Block.{IsLastOf}
use Rattle.cfg_model.specs.Graph.Edge.{LeadsTo}
use Rattle.cfg_model.specs.Graph.Graph.{EdgeBefore}
use Rattle.cert_text.specs.declared.lines.ReturnLine.{ReturnLine}
use Rattle.cert_text.specs.declared.lines.LeadLine.{LeadLine}
use Rattle.cert_laws.specs.Lines.{IsLead, IsReturn}
use Rattle.cert_laws.specs.Ways.{EndsIn}

-- An edge leaves the block of a listed leader by a way on from its last instruction; a call returns
-- if its target ends in a listed return.
pub record IsWay (map : InstructionMap) (leads : List LeadLine) (returns : List ReturnLine)
    (edge : Edge) : Type 0 where
  pub last : ℕ
  pub from : IsLead leads edge.from
  pub ends : IsLastOf map (IsLead leads) edge.from last
  pub leads_to : LeadsTo map (EndsIn map (IsReturn returns)) last edge.to edge.kind

-- These are all such edges, in order.
pub record AreWays (map : InstructionMap) (leads : List LeadLine) (returns : List ReturnLine)
    (edges : List Edge) : Type 0 where
  pub in_order : AllPairs EdgeBefore edges
  pub exact : (edge : Edge) → Contains edges edge ↔ IsWay map leads returns edge

-- One of these edges leads from one address to the other.
pub record HasEdge (edges : List Edge) (from to : ℕ) : Type 0 where
  pub edge : Edge
  pub listed : Contains edges edge
  pub leaves : edge.from ≡ from
  pub enters : edge.to ≡ to

-- Whether an edge comes before those that lead from one address to the other.
abbrev pub comes_before : ℕ → ℕ → Edge → Bool
comes_before from to edge = nat_lt edge.from from || (nat_eq edge.from from && nat_lt edge.to to)
