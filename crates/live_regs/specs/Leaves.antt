-- Where control leaves the body of a function (this project's profile: callees and callers are taken
-- to read every register).
use Rattle.std.specs.Prelude.{◌≡◌, ◌≢◌, ℕ, Bool, true, false, IsTrue, List, Contains}
use Rattle.cfg_model.specs.declared.graph.Block.{Block}
use Rattle.cfg_model.specs.declared.graph.Edge.{Edge}
use Rattle.cfg_model.specs.declared.graph.EdgeKind.TheVariants as kinds
use Rattle.cfg_model.specs.declared.graph.EndKind.{EndKind}
use Rattle.cfg_model.specs.declared.graph.EndKind.TheVariants as ends

-- A block that ends so leaves its function: it returns or calls, or not all of its ways are in the
-- graph. Where execution does not go on, nothing is read any more.
abbrev pub ends_outside : EndKind → Bool
ends_outside ends.Fall = false
ends_outside ends.Branch = false
ends_outside ends.BranchOut = true
ends_outside ends.Jump = false
ends_outside ends.Call = true
ends_outside ends.IndirectCall = true
ends_outside ends.Return = true
ends_outside ends.Table = false
ends_outside ends.TableCut = true
ends_outside ends.TableOpen = true
ends_outside ends.Unknown = true
ends_outside ends.Stop = false

-- One of these edges leads from s to t, and is no call.
pub record LeadsOn (edges : List Edge) (s t : ℕ) : Type 0 where
  pub edge : Edge
  pub listed : Contains edges edge
  pub from : edge.from ≡ s
  pub to : edge.to ≡ t
  pub no_call : edge.kind ≢ kinds.Call

-- The block leaves the function of this body: by what it ends with, or by an edge.
pub data Leaves (edges : List Edge) (body : List ℕ) (block : Block) : Type 0 where
  by_end : IsTrue (ends_outside block.kind) → Leaves edges body block
  by_edge : {t : ℕ} → LeadsOn edges block.start t → ¬ Contains body t → Leaves edges body block
