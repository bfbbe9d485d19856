-- What a run may leave behind.
use Rattle.std.specs.Prelude.{◌≡◌, ℕ, List, [], Option}
use Rattle.elf_image.specs.declared.fault.Fault.{Fault}
use Rattle.run_ends.specs.Answer.{GivesAnswer, GivesAnswerPart}
use Rattle.walk_run.specs.declared.status.WalkStatus.{WalkStatus}
use Rattle.walk_run.specs.declared.status.WalkStatus.TheVariants as statuses
use Rattle.walk_run.specs.declared.refusal.Refusal.TheVariants as refusals
use Rattle.walk_run.specs.Lines.{refusal_line}
use Rattle.walk_run.specs.Words.{Asked}
use Rattle.walk_run.specs.Answer.{IsAnswer}

-- The words and the bytes decided the status: nothing failed, and memory sufficed.
abbrev pub IsDecided : WalkStatus → Type 0
IsDecided statuses.Done = Unit {0}
IsDecided statuses.Usage = Unit {0}
IsDecided statuses.Malformed = Unit {0}
IsDecided statuses.ReadFault = ⊥
IsDecided statuses.WriteFault = ⊥
IsDecided statuses.Memory = ⊥
IsDecided statuses.TooMuch = Unit {0}

-- The status says that a file was read.
abbrev pub HasRead : WalkStatus → Type 0
HasRead statuses.Done = Unit {0}
HasRead statuses.Usage = ⊥
HasRead statuses.Malformed = Unit {0}
HasRead statuses.ReadFault = ⊥
HasRead statuses.WriteFault = Unit {0}
HasRead statuses.Memory = ⊥
HasRead statuses.TooMuch = Unit {0}

-- A run that ended in this way gave the answer: its status is the answer's, and standard output and
-- standard error took the texts of it.
abbrev pub Gives : List ℕ → Option Asked → WalkStatus → (List ℕ → Type 0) → (List ℕ → Type 0)
    → Type 0
Gives bytes asked end Output Error = GivesAnswer (IsAnswer bytes asked) end Output Error

-- A run whose writing failed: standard output grew by a part, from its front, of the trace.
abbrev pub GivesPart : List ℕ → Option Asked → Option (List ℕ) → Option (List ℕ) → Type 0
GivesPart bytes asked old new = GivesAnswerPart (IsAnswer bytes asked) statuses.Done old new

-- The line that a status puts on standard error. Which fault a malformed file has, the answer says.
abbrev pub IsLineOf : WalkStatus → List ℕ → Type 0
IsLineOf statuses.Done text = text ≡ []
IsLineOf statuses.Usage text = text ≡ refusal_line refusals.Usage
IsLineOf statuses.Malformed text = (fault : Fault)
    × (text ≡ refusal_line (refusals.Malformed fault))
IsLineOf statuses.ReadFault text = text ≡ refusal_line refusals.ReadFault
IsLineOf statuses.WriteFault text = text ≡ refusal_line refusals.WriteFault
IsLineOf statuses.Memory text = text ≡ refusal_line refusals.Memory
IsLineOf statuses.TooMuch text = text ≡ refusal_line refusals.TooMuch
