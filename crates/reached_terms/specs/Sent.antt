-- Where control is sent.
use Rattle.std.specs.Prelude.{◌≡◌, ℕ, List, Contains, Some}
use Rattle.cfg_model.specs.declared.flow.Flow.{Flow}
use Rattle.cfg_model.specs.Program.Instructions.{InstructionMap, flow_at, targets_at}
use Rattle.cfg_model.specs.Program.Successors.{IsCall}
use Rattle.cfg_model.specs.Program.Status.{Returns}
use Rattle.cfg_model.specs.Program.Reach.{Reached}
use Rattle.cfg_model.specs.Graph.Leader.{targets_by, fall_by}

-- Control is sent to the address a: whatever makes it a leader, but that two streams join at it. It
-- is a seed. A reached instruction sends control to it. It is the fall of a reached branch or of a
-- reached call that may come back.
pub data IsSent (map : InstructionMap) (seeds : List ℕ) : ℕ → Type 0 where
  seed : {a : ℕ} → Contains seeds a → IsSent map seeds a
  target : {k a : ℕ} {flow : Flow} → Reached map seeds k → flow_at map k ≡ Some flow
      → Contains (targets_by (targets_at map k) flow) a → IsSent map seeds a
  fall : {k a : ℕ} {flow : Flow} → Reached map seeds k → flow_at map k ≡ Some flow
      → fall_by flow ≡ Some a → IsSent map seeds a
  past_call : {k target a : ℕ} → Reached map seeds k → IsCall map k target (Some a)
      → Returns map target → IsSent map seeds a
