-- What a run may leave behind.
use Rattle.std.specs.Prelude.{◌≡◌, ◌↔◌, ℕ, ◌⊎◌, List, [], Option, Some, None, IfSome}
use Rattle.elf_image.specs.declared.fault.Fault.{Fault}
use Rattle.elf_image.specs.Faults.{first_fault}
use Rattle.run_ends.specs.Answer.{GivesAnswer, GivesAnswerPart}
use Rattle.check_run.specs.declared.status.CheckStatus.{CheckStatus}
use Rattle.check_run.specs.declared.status.CheckStatus.TheVariants as statuses
use Rattle.check_run.specs.declared.refusal.Refusal.TheVariants as refusals
use Rattle.check_run.specs.Lines.{refusal_line}
use Rattle.check_run.specs.Words.{Asked, of_make, of_test}
use Rattle.check_run.specs.Evidence.{HasNoText, HasFalse, HasValid}
use Rattle.check_run.specs.Answer.{IsAnswer}

-- The words and the bytes decided the status: nothing failed, and memory sufficed.
abbrev pub IsDecided : CheckStatus → Type 0
IsDecided statuses.Done = Unit {0}
IsDecided statuses.Usage = Unit {0}
IsDecided statuses.Malformed = Unit {0}
IsDecided statuses.ReadFault = ⊥
IsDecided statuses.WriteFault = ⊥
IsDecided statuses.Memory = ⊥
IsDecided statuses.NoText = Unit {0}
IsDecided statuses.Refused = Unit {0}

-- It holds of the bytes of both, if the inputs tell them.
abbrev pub OverBoth : Option (List ℕ) → Option (List ℕ) → (List ℕ → List ℕ → Type 0) → Type 0
OverBoth file certificate P = IfSome file (λ bytes. IfSome certificate (λ text. P bytes text))

-- It holds of the bytes of the file and of the certificate that are asked for, if the inputs tell
-- them. What is not asked for has no bytes.
abbrev pub OverInputs : Option Asked → Option (List ℕ) → Option (List ℕ)
    → (List ℕ → List ℕ → Type 0) → Type 0
OverInputs None file certificate P = P [] []
OverInputs (Some (of_make path)) file certificate P = IfSome file (λ bytes. P bytes [])
OverInputs (Some (of_test path other)) file certificate P = OverBoth file certificate P

-- A call of an input that is asked for failed: of the file's, or for a test of the certificate's.
abbrev pub FailedToRead : Option Asked → Type 0 → Type 0 → Type 0
FailedToRead None file certificate = ⊥
FailedToRead (Some (of_make path)) file certificate = file
FailedToRead (Some (of_test path other)) file certificate = file ⊎ certificate

-- A run that ended in this way gave the answer: its status is the answer's, and standard output and
-- standard error took the texts of it.
abbrev pub Gives : List ℕ → List ℕ → Option Asked → CheckStatus → (List ℕ → Type 0)
    → (List ℕ → Type 0) → Type 0
Gives bytes text asked end Output Error = GivesAnswer (IsAnswer bytes text asked) end Output Error

-- A run whose writing failed: standard output grew by a part, from its front, of the output.
abbrev pub GivesPart : List ℕ → List ℕ → Option Asked → Option (List ℕ) → Option (List ℕ) → Type 0
GivesPart bytes text asked old new =
    GivesAnswerPart (IsAnswer bytes text asked) statuses.Done old new

-- The file with these bytes has a fault, and standard error took the line that names the first one.
pub record NamesFault (bytes : List ℕ) (Error : List ℕ → Type 0) : Type 0 where
  pub fault : Fault
  pub is_first : first_fault bytes ≡ Some fault
  pub line : Error (refusal_line (refusals.Malformed fault))

-- The end of a test says what its text is to the bytes of the file.
pub record Judges (bytes text : List ℕ) (end : CheckStatus) : Type 0 where
  pub no_text : (end ≡ statuses.NoText) ↔ HasNoText bytes text
  pub refused : (end ≡ statuses.Refused) ↔ HasFalse bytes text
  pub done : (end ≡ statuses.Done) ↔ HasValid bytes text

-- The line that a status puts on standard error. Which fault a malformed file has, the answer says.
abbrev pub IsLineOf : CheckStatus → List ℕ → Type 0
IsLineOf statuses.Done text = text ≡ []
IsLineOf statuses.Usage text = text ≡ refusal_line refusals.Usage
IsLineOf statuses.Malformed text = (fault : Fault)
    × (text ≡ refusal_line (refusals.Malformed fault))
IsLineOf statuses.ReadFault text = text ≡ refusal_line refusals.ReadFault
IsLineOf statuses.WriteFault text = text ≡ refusal_line refusals.WriteFault
IsLineOf statuses.Memory text = text ≡ refusal_line refusals.Memory
IsLineOf statuses.NoText text = text ≡ refusal_line refusals.NoText
IsLineOf statuses.Refused text = text ≡ refusal_line refusals.Refused
