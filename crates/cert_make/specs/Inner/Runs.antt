-- The blocks of the listed leaders, and which come after which, by their places.
use Rattle.std.specs.Prelude.{◌≡◌, ℕ, ◌<◌, List, length, slice_index_or, Option, Some, None}
use Rattle.std.specs.Option.{MatchOption}
use Rattle.cfg_model.specs.Program.Instructions.{InstructionMap}
use Rattle.cfg_model.specs.Program.Chain.{GoesOnTo, IsTerminator}
use Rattle.cfg_model.specs.Graph.Block.{IsLastOf}
use Rattle.cert_text.specs.declared.lines.LeadLine.{LeadLine}
use Rattle.cert_laws.specs.Lines.{IsLead}
use Rattle.cert_ends.specs.Places.{IsPlace}
use Rattle.cert_make.specs.declared.runs.Run.{Run}

-- Where a block goes on: at the leader at this place, or nowhere, since it ends in a terminator.
abbrev pub GoesInto : InstructionMap → List LeadLine → ℕ → Option ℕ → Type 0
GoesInto map leads last into =
    MatchOption into (IsTerminator map last)
    (λ j. (next : ℕ) × IsPlace leads j next × GoesOnTo map last next)

-- This is the block of the leader at this place: its last address, and where it goes on.
pub record IsRun (map : InstructionMap) (leads : List LeadLine) (i : ℕ) (run : Run) : Type 0 where
  pub start : ℕ
  pub place : IsPlace leads i start
  pub last : IsLastOf map (IsLead leads) start run.last
  pub into : GoesInto map leads run.last run.into

-- These are the blocks of all leaders, by their places.
pub record AreRuns (map : InstructionMap) (leads : List LeadLine) (runs : List Run) : Type 0 where
  pub as_many : length runs ≡ length leads
  pub each : (i : ℕ) (d : Run) → i < length leads → IsRun map leads i (slice_index_or runs i d)

-- The block at a place.
abbrev pub run_at : List Run → ℕ → Run
run_at runs i = slice_index_or runs i (record { last = 0; into = None })

-- The block at place j comes after that at place i, or is the same.
pub data LeadsAlong (runs : List Run) : ℕ → ℕ → Type 0 where
  here : {i : ℕ} → LeadsAlong runs i i
  on : {i next j : ℕ} → (run_at runs i).into ≡ Some next → LeadsAlong runs next j
      → LeadsAlong runs i j

-- The leader p lies upstream of the block at this place, or is its own.
abbrev pub IsUpstream : List LeadLine → List Run → ℕ → ℕ → Type 0
IsUpstream leads runs i p = (place : ℕ) × IsPlace leads place p × LeadsAlong runs place i
