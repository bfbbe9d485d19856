-- Orderly steps: what compiled code does at the places whose targets a report does not know.
use Rattle.std.specs.Prelude.{◌≡◌, ℕ, List, ◌∷◌, ◌++◌, Contains, Option, Some, IsSome}
use Rattle.std.specs.Prelude.{true, false}
use Rattle.cfg_model.specs.declared.flow.Flow.{Flow}
use Rattle.cfg_model.specs.declared.flow.Flow.TheVariants as flow
use Rattle.cfg_model.specs.declared.graph.Function.{Function}
use Rattle.cfg_model.specs.declared.graph.Graph.{Graph}
use Rattle.cfg_model.specs.Program.Instructions.{InstructionMap, flow_at, targets_at}
use Rattle.cfg_model.specs.Program.Successors.{IsCall}
use Rattle.run_laws.specs.Frames.{Frame, frame_of, return_address}

-- A function of the graph has this entry.
pub record IsEntryIn (graph : Graph) (entry : ℕ) : Type 0 where
  pub function : Function
  pub listed : Contains graph.functions function
  pub is : function.entry ≡ entry

-- Control goes to the entry of a function of the graph, or to where no instruction stands: there a
-- run ends.
abbrev pub EntersFunction : InstructionMap → Graph → ℕ → Type 0
EntersFunction map graph to = IsSome (map to) → IsEntryIn graph to

-- Flows that say themselves where control goes within the function: each that is no call and no
-- return, but of jumps through a register only those through a full table with a bound test.
abbrev pub GoesBySelf : Flow → Type 0
GoesBySelf (flow.Straight next) = Unit {0}
GoesBySelf (flow.Branch taken fall) = Unit {0}
GoesBySelf (flow.Jump target) = Unit {0}
GoesBySelf (flow.Table entries true false) = Unit {0}
GoesBySelf flow.Stop = Unit {0}
GoesBySelf _ = ⊥

-- A return takes the frame of the last call, and goes to the address after that call.
pub record TakesFrame (map : InstructionMap) (from to : ℕ)
    (before after : List Frame) : Type 0 where
  pub frame : Frame
  pub last : before ≡ frame ∷ after
  pub returns : flow_at map from ≡ Some flow.Return
  pub behind : return_address (flow_at map frame.call) ≡ Some to

-- A jump that an unwinder may make to a landing pad: a return, or one whose target is not known.
abbrev pub MayUnwind : Option Flow → Type 0
MayUnwind (Some flow.Return) = Unit {0}
MayUnwind (Some flow.Unknown) = Unit {0}
MayUnwind _ = ⊥

-- An unwinding takes the frame of some call and those above it, and goes to the landing pad of that
-- call.
pub record Unwinds (map : InstructionMap) (from to : ℕ) (before after : List Frame) : Type 0 where
  pub frame : Frame
  pub above : List Frame
  pub some : before ≡ above ++ frame ∷ after
  pub jumps : MayUnwind (flow_at map from)
  pub pad : Contains (targets_at map frame.call) to

-- An orderly step from one address to another, with the frames before it and after it. A call puts a
-- frame. Through a register it goes to a function of the graph, and so does a jump whose target is not
-- known; a jump through a table goes to a kept target. A return goes back to the last call. What is
-- unwound lands at a pad.
pub data IsOrderly (map : InstructionMap) (graph : Graph) (from to : ℕ)
    : List Frame → List Frame → Type 0 where
  onward : {f : Flow} {frames : List Frame} → flow_at map from ≡ Some f → GoesBySelf f
      → IsOrderly map graph from to frames frames
  by_table : {entries : ℕ} {full is_open : _} {frames : List Frame}
      → flow_at map from ≡ Some (flow.Table entries full is_open)
      → Contains (targets_at map from) to → IsOrderly map graph from to frames frames
  by_register : {frames : List Frame} → flow_at map from ≡ Some flow.Unknown
      → EntersFunction map graph to → IsOrderly map graph from to frames frames
  calls : {target : ℕ} {fall : Option ℕ} {frames : List Frame} → IsCall map from target fall
      → IsOrderly map graph from to frames (frame_of from to ∷ frames)
  calls_by_register : {fall : Option ℕ} {frames : List Frame}
      → flow_at map from ≡ Some (flow.IndirectCall fall) → EntersFunction map graph to
      → IsOrderly map graph from to frames (frame_of from to ∷ frames)
  returns : {before after : List Frame} → TakesFrame map from to before after
      → IsOrderly map graph from to before after
  unwinds : {before after : List Frame} → Unwinds map from to before after
      → IsOrderly map graph from to before after
