-- The blocks of the listed leaders, and whose block an address lies in.
use Rattle.std.specs.Prelude.{◌≡◌, ℕ, ◌<◌, ◌^◌, ◌≢◌, List, length, slice_index_or, Option, Some, None, IsSome}
use Rattle.std.specs.Option.{MatchOption}
use Rattle.cfg_model.specs.Program.Instructions.{InstructionMap, flow_at}
use Rattle.cfg_model.specs.Program.Chain.{GoesOnTo, IsTerminator}
use Rattle.cfg_model.specs.Graph.Block.{RunsTo, IsLastOf}
use Rattle.numbered.specs.Numbering.{IsNumbering}
use Rattle.cert_text.specs.declared.lines.LeadLine.{LeadLine}
use Rattle.cert_laws.specs.Lines.{IsLead}
use Rattle.cert_check.specs.declared.blocks.Run.{Run}
use Rattle.cert_check.specs.declared.blocks.Blocks.{Blocks}
use Rattle.cert_ends.specs.Places.{IsPlace}

-- x lies in the block of the leader at this place.
pub record LiesIn (map : InstructionMap) (leads : List LeadLine) (x i : ℕ) : Type 0 where
  pub start : ℕ
  pub place : IsPlace leads i start
  pub runs : RunsTo map (IsLead leads) start x

-- The place of the leader whose block an address lies in, if there is one, as it is kept by the
-- numbers of the addresses.
abbrev pub owner_by : (ℕ → ℕ) → List (Option ℕ) → ℕ → Option ℕ
owner_by number places a = slice_index_or places (number a) None

-- An address that had no owner gets this one, and no other address changes.
pub record IsClaimed (map : InstructionMap) (old new : ℕ → Option ℕ) (a i : ℕ) : Type 0 where
  pub free : old a ≡ None
  pub here : new a ≡ Some i
  pub others : (x : ℕ) → IsSome (map x) → x ≢ a → new x ≡ old x

-- Each address in the blocks of the first so many leaders has its place, and no other has any.
pub record AreOwned (map : InstructionMap) (leads : List LeadLine) (owner : ℕ → Option ℕ)
    (count : ℕ) : Type 0 where
  pub right : (x i : ℕ) → IsSome (map x) → owner x ≡ Some i → (i < count) × LiesIn map leads x i
  pub whole : (x i : ℕ) → i < count → LiesIn map leads x i → owner x ≡ Some i

-- Where a block goes on: at the leader at this place, or nowhere, since it ends in a terminator.
abbrev pub GoesInto : InstructionMap → List LeadLine → ℕ → Option ℕ → Type 0
GoesInto map leads last into =
    MatchOption into (IsTerminator map last)
    (λ j. (next : ℕ) × IsPlace leads j next × GoesOnTo map last next)

-- This is the block of the leader at this place: its last address, the flow there, and where it goes
-- on.
pub record IsRun (map : InstructionMap) (leads : List LeadLine) (i : ℕ) (run : Run) : Type 0 where
  pub start : ℕ
  pub place : IsPlace leads i start
  pub last : IsLastOf map (IsLead leads) start run.last
  pub into : GoesInto map leads run.last run.into
  pub flow : flow_at map run.last ≡ Some run.flow

-- These are the blocks of all leaders, by their places.
pub record AreRuns (map : InstructionMap) (leads : List LeadLine) (runs : List Run) : Type 0 where
  pub as_many : length runs ≡ length leads
  pub each : (i : ℕ) (d : Run) → i < length leads → IsRun map leads i (slice_index_or runs i d)

-- So are these, and they share no address.
pub record AreBlocks (map : InstructionMap) (number : ℕ → ℕ) (leads : List LeadLine)
    (blocks : Blocks) : Type 0 where
  pub few : length leads < 2 ^ 32
  pub numbering : IsNumbering map number (length blocks.owners.places.items)
  pub owned : AreOwned map leads (owner_by number blocks.owners.places.items) (length leads)
  pub runs : AreRuns map leads blocks.runs.items
