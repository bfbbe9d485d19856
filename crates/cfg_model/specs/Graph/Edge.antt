-- Edges between basic blocks, before tail calls are marked.
use Rattle.std.specs.Prelude.{◌≡◌, ℕ, List, Contains, Option, Some}
use Rattle.cfg_model.specs.declared.flow.Flow.TheVariants.{Branch, Jump, IndirectCall, Table}
use Rattle.cfg_model.specs.declared.graph.Edge.{Edge}
use Rattle.cfg_model.specs.declared.graph.EdgeKind.{EdgeKind}
use Rattle.cfg_model.specs.declared.graph.EdgeKind.TheVariants as kinds
use Rattle.cfg_model.specs.Program.Instructions.{InstructionMap, flow_at, targets_at}
use Rattle.cfg_model.specs.Program.Chain.{GoesOnTo}
use Rattle.cfg_model.specs.Program.Successors.{IsCall, MayLand}
use Rattle.cfg_model.specs.Program.Status.{Returns}
use Rattle.cfg_model.specs.Graph.Leader.{IsLeader}
use Rattle.cfg_model.specs.Graph.Block.{IsLastOf}

-- The ways on from the instruction at k, one rule for each kind of edge: straight on, the fall of a
-- branch, a branch taken, a jump, a call, a kept entry of a table, the landing pad of a call, whether
-- or not the callee returns. Two rules are of the fall of a call: of one through a register, and of
-- one whose target is among those that return.
pub data LeadsTo (map : InstructionMap) (MayReturn : ℕ → Type 0) : ℕ → ℕ → EdgeKind → Type 0 where
  straight : {k to : ℕ} → GoesOnTo map k to → LeadsTo map MayReturn k to kinds.Fall
  not_taken : {k to : ℕ} {taken : Option ℕ} → flow_at map k ≡ Some (Branch taken (Some to))
      → LeadsTo map MayReturn k to kinds.Fall
  taken : {k to : ℕ} {fall : Option ℕ} → flow_at map k ≡ Some (Branch (Some to) fall)
      → LeadsTo map MayReturn k to kinds.Taken
  jump : {k to : ℕ} → flow_at map k ≡ Some (Jump to) → LeadsTo map MayReturn k to kinds.Jump
  call : {k to : ℕ} {fall : Option ℕ} → IsCall map k to fall → LeadsTo map MayReturn k to kinds.Call
  after_indirect : {k to : ℕ} → flow_at map k ≡ Some (IndirectCall (Some to))
      → LeadsTo map MayReturn k to kinds.After
  after_call : {k target to : ℕ} → IsCall map k target (Some to) → MayReturn target
      → LeadsTo map MayReturn k to kinds.After
  table : {k to entries : ℕ} {full is_open : _} → flow_at map k ≡ Some (Table entries full is_open)
      → Contains (targets_at map k) to → LeadsTo map MayReturn k to kinds.Table
  landing : {k to : ℕ} → MayLand map k → Contains (targets_at map k) to
      → LeadsTo map MayReturn k to kinds.Landing

-- An edge that leaves the block of s by a way on from the instruction at k, the last of the block.
pub record Leaves (map : InstructionMap) (MayReturn : ℕ → Type 0) (s k : ℕ)
    (edge : Edge) : Type 0 where
  pub from : edge.from ≡ s
  pub leads : LeadsTo map MayReturn k edge.to edge.kind

-- An edge of the program leaves a block by a way on from its last instruction; a call returns if
-- its target does.
pub record IsEdge (map : InstructionMap) (seeds : List ℕ) (edge : Edge) : Type 0 where
  pub last : ℕ
  pub from : IsLeader map seeds edge.from
  pub ends : IsLastOf map (IsLeader map seeds) edge.from last
  pub leads : LeadsTo map (Returns map) last edge.to edge.kind
