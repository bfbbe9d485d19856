-- Basic blocks.
use Rattle.std.specs.Prelude.{◌≡◌, ℕ, ◌+◌, List, Some, None, true, false}
use Rattle.cfg_model.specs.declared.flow.Flow.{Flow}
use Rattle.cfg_model.specs.declared.flow.Flow.TheVariants.{Straight, Branch, Jump}
use Rattle.cfg_model.specs.declared.flow.Flow.TheVariants.{Call, IndirectCall, Table}
use Rattle.cfg_model.specs.declared.flow.Flow.TheVariants.{Return, Unknown, Stop}
use Rattle.cfg_model.specs.declared.graph.Block.{Block}
use Rattle.cfg_model.specs.declared.graph.EndKind.{EndKind}
use Rattle.cfg_model.specs.declared.graph.EndKind.TheVariants as ends
use Rattle.cfg_model.specs.Program.Instructions.{InstructionMap, flow_at, length_at}
use Rattle.cfg_model.specs.Program.Chain.{GoesOnTo}
use Rattle.cfg_model.specs.Program.Meeting.{IsStop}
use Rattle.cfg_model.specs.Graph.Leader.{IsLeader}

-- k is on the chain of s, and none of the addresses where blocks are cut stands above s up to k.
pub data RunsTo (map : InstructionMap) (IsCut : ℕ → Type 0) : ℕ → ℕ → Type 0 where
  here : {s : ℕ} → RunsTo map IsCut s s
  on : {s next k : ℕ} → GoesOnTo map s next → ¬ IsCut next → RunsTo map IsCut next k
      → RunsTo map IsCut s k

-- k is the last address of the block of s, where blocks are cut at these addresses: the terminator
-- of its chain, or the last address before one of them if that comes first.
pub record IsLastOf (map : InstructionMap) (IsCut : ℕ → Type 0) (s k : ℕ) : Type 0 where
  pub runs : RunsTo map IsCut s k
  pub stops : IsStop map IsCut k

-- What a block ends with whose last instruction has this flow.
abbrev pub end_kind : Flow → EndKind
end_kind (Straight next) = ends.Fall
end_kind (Branch (Some taken) (Some fall)) = ends.Branch
end_kind (Branch (Some taken) None) = ends.BranchOut
end_kind (Branch None fall) = ends.BranchOut
end_kind (Jump target) = ends.Jump
end_kind (Call target fall) = ends.Call
end_kind (IndirectCall fall) = ends.IndirectCall
end_kind (Table entries full true) = ends.TableOpen
end_kind (Table entries true false) = ends.Table
end_kind (Table entries false false) = ends.TableCut
end_kind Return = ends.Return
end_kind Unknown = ends.Unknown
end_kind Stop = ends.Stop

-- The block from s to the instruction at k: it ends after that instruction, and has the kind of its
-- flow.
pub record IsBlockOf (map : InstructionMap) (s k : ℕ) (block : Block) : Type 0 where
  pub start : block.start ≡ s
  pub ends : (bytes : ℕ) × (length_at map k ≡ Some bytes) × (block.end ≡ k + bytes)
  pub kind : (flow : Flow) × (flow_at map k ≡ Some flow) × (block.kind ≡ end_kind flow)

-- A block of the program with this last address: it starts at a leader, and is cut at the leaders.
pub record IsBlockTo (map : InstructionMap) (seeds : List ℕ) (block : Block) (k : ℕ) : Type 0 where
  pub leader : IsLeader map seeds block.start
  pub last : IsLastOf map (IsLeader map seeds) block.start k
  pub of : IsBlockOf map block.start k block

-- A basic block of the program.
abbrev pub IsBlock : InstructionMap → List ℕ → Block → Type 0
IsBlock map seeds block = (k : ℕ) × IsBlockTo map seeds block k
