-- Leaders: the addresses where basic blocks start.
use Rattle.std.specs.Prelude.{◌≡◌, ℕ, List, [], ◌∷◌, Contains, Option, Some, None, option_to_list}
use Rattle.cfg_model.specs.declared.flow.Flow.{Flow}
use Rattle.cfg_model.specs.declared.flow.Flow.TheVariants.{Branch, Jump, Call, IndirectCall, Table}
use Rattle.cfg_model.specs.Program.Instructions.{InstructionMap, flow_at, length_at, targets_at}
use Rattle.cfg_model.specs.Program.Chain.{GoesOnTo}
use Rattle.cfg_model.specs.Program.Successors.{IsCall}
use Rattle.cfg_model.specs.Program.Status.{Returns}
use Rattle.cfg_model.specs.Program.Reach.{Reached}

-- The addresses that a flow sends control to: the taken target of a branch, the target of a jump or
-- call, the kept targets of a table, the landing pad of a call. Going on and returning from a known
-- call do not count.
abbrev pub targets_by : List ℕ → Flow → List ℕ
targets_by kept (Branch taken fall) = option_to_list taken
targets_by kept (Jump target) = target ∷ []
targets_by kept (Call target fall) = target ∷ kept
targets_by kept (IndirectCall fall) = kept
targets_by kept (Table entries full is_open) = kept
targets_by kept _ = []

-- The fall of a branch or of a call through a register.
abbrev pub fall_by : Flow → Option ℕ
fall_by (Branch taken fall) = fall
fall_by (IndirectCall fall) = fall
fall_by _ = None

-- What makes a reached address a leader. It is a seed. A reached instruction sends control to it.
-- It is the fall of a reached branch or of a reached call that may come back. Two straight
-- instructions of different lengths, of two streams, join at it.
pub data StartsBlock (map : InstructionMap) (seeds : List ℕ) : ℕ → Type 0 where
  seed : {a : ℕ} → Contains seeds a → StartsBlock map seeds a
  target : {k a : ℕ} {flow : Flow} → Reached map seeds k → flow_at map k ≡ Some flow
      → Contains (targets_by (targets_at map k) flow) a → StartsBlock map seeds a
  fall : {k a : ℕ} {flow : Flow} → Reached map seeds k → flow_at map k ≡ Some flow
      → fall_by flow ≡ Some a → StartsBlock map seeds a
  past_call : {k target a : ℕ} → Reached map seeds k → IsCall map k target (Some a)
      → Returns map target → StartsBlock map seeds a
  join : {short long a : ℕ} → Reached map seeds short → GoesOnTo map short a
      → length_at map short ≡ Some 2 → Reached map seeds long → GoesOnTo map long a
      → length_at map long ≡ Some 4 → StartsBlock map seeds a

-- A leader: a reached address where a block starts.
pub record IsLeader (map : InstructionMap) (seeds : List ℕ) (a : ℕ) : Type 0 where
  pub reached : Reached map seeds a
  pub starts : StartsBlock map seeds a
