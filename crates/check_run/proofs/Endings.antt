-- How a run ends: what each refusal leaves, by its kind.
use Rattle.std.proofs.Common.{◌≡◌, ℕ, List, [], Option, Some, None, refl, sym, subst}
use Rattle.std.specs.Prelude.{◌↔◌, IfSome, IsErrOf, Err}
use Rattle.std.proofs.lemmas.Option.{IfSome_then, none-some}
use Rattle.elf_image.specs.Faults.{first_fault}
use Rattle.cfg_io.specs.Told.{TakesCount}
use Rattle.run_ends.specs.declared.reading.Unread.{Unread}
use Rattle.run_ends.specs.declared.reading.Unread.TheVariants as unread
use Rattle.run_ends.specs.Told.{Grows}
use Rattle.run_ends.proofs.Inputs.{taken-too-large}
use Rattle.run_ends.proofs.Pieces.{appends-nothing}
use Rattle.cert_text.specs.declared.certificate.Certificate.{Certificate}
use Rattle.cert_laws.specs.FileCertificate.{IsCertificateOf}
use Rattle.check_run.specs.declared.refusal.Refusal.{Refusal}
use Rattle.check_run.specs.declared.refusal.Refusal.TheVariants as refusals
use Rattle.check_run.specs.declared.status.CheckStatus.TheVariants as statuses
use Rattle.check_run.specs.declared.status.CheckStatus.{CheckStatus}
use Rattle.check_run.specs.Words.{Asked, of_make, of_test, AsksFile, AsksMake, AsksTest}
use Rattle.check_run.specs.Evidence.{Holds}
use Rattle.check_run.specs.Answer.{IsAnswer, refused_with, text_answer}
use Rattle.check_run.specs.Text.{IsCanonicalText, IsReportOf}
use Rattle.check_run.specs.Refusal.{status_of, refusal_of_file}
use Rattle.check_run.specs.Lines.{refusal_line}
use Rattle.check_run.specs.Inner.{IsTrueOfFile, IsTrueOf}
use Rattle.check_run.specs.Run.{IsDecided, Gives, NamesFault, Judges, IsLineOf, OverBoth, OverInputs}
use Rattle.check_run.proofs.Unique.{judges, made-exactly}

-- An error has one value.
pub err-same : {T E : Type 0} {a b : E} → IsErrOf {T = T} (Err a) b → a ≡ b
err-same is = cc

-- ---- reading

-- What reading refuses is true of the file.
pub unread-file : (told new : Option (List ℕ)) (rose : Type 0) (e : Unread) → (e ≡ unread.ReadFault → rose)
    → (e ≡ unread.TooLarge → TakesCount told 67108865 new) → IsTrueOfFile told rose (refusal_of_file e)
unread-file told new rose unread.ReadFault failed takes = failed refl
unread-file told new rose unread.TooLarge failed takes = taken-too-large told new (takes refl)
unread-file told new rose unread.Memory failed takes = tt

-- ---- a certificate that is made

-- The text of the canonical certificate is the answer.
pub made-true : (path : List ℕ) (file : Option (List ℕ)) (bytes text : List ℕ) → IfSome file (λ b. b ≡ bytes) → first_fault bytes ≡ None
    → IsCanonicalText bytes text → IfSome file (λ b. IsAnswer b [] (Some (of_make path)) (text_answer text))
made-true path file bytes text same accepted is =
    IfSome_then file same (λ b equal. subst (λ (x : List ℕ). IsAnswer x [] (Some (of_make path)) (text_answer text)) (sym equal)
    (subst (λ (t : List ℕ). IsAnswer bytes [] (Some (of_make path)) (text_answer t)) (sym is.is_text)
    (IsAnswer.made {canonical = is.certificate} accepted is.is_canonical)))

-- ---- a file and a certificate

-- It holds of both if it holds of the bytes of the file and of each such text.
over-both : (P : List ℕ → List ℕ → Type 0) {Q : List ℕ → Type 0} (file certificate : Option (List ℕ)) (bytes : List ℕ)
    → IfSome file (λ b. b ≡ bytes) → IfSome certificate Q → ((text : List ℕ) → Q text → P bytes text) → OverBoth file certificate P
over-both P None certificate bytes same held f = tt
over-both P (Some b) None bytes same held f = tt
over-both P (Some b) (Some text) bytes same held f = subst (λ (x : List ℕ). P x text) (sym same) (f text held)

module _ (path other : List ℕ) (file certificate : Option (List ℕ)) (bytes : List ℕ) (same : IfSome file (λ b. b ≡ bytes)) (accepted : first_fault bytes ≡ None) where
  -- A valid one has the report.
  pub report-true : (c : Certificate) (report : List ℕ) → IfSome certificate (λ text. Holds text c) → IsCertificateOf bytes c
      → IsReportOf bytes report → OverBoth file certificate (λ b text. IsAnswer b text (Some (of_test path other)) (text_answer report))
  report-true c report held valid is =
      over-both _ file certificate bytes same held (λ text holds.
      subst (λ (r : List ℕ). IsAnswer bytes text (Some (of_test path other)) (text_answer r)) (sym is.is_report)
      (IsAnswer.done {graph = is.graph} (record { accepted = accepted; certificate = c; held = holds; valid = valid }) is.is_graph))

-- ---- refusing

-- A refusal that is an answer is given.
given : {bytes text : List ℕ} {asked : Option Asked} (r : Refusal) (old : Option (List ℕ)) (Error : List ℕ → Type 0)
    → IsAnswer bytes text asked (refused_with r) → Error (refusal_line r) → Gives bytes text asked (status_of r) (Grows old old) Error
given r old Error is line = record {
  answer = refused_with r;
  is_answer = is;
  status = refl;
  output = appends-nothing old;
  error = line;
}

made-decided : (path bytes : List ℕ) (certificate : Option (List ℕ)) (rose : Type 0) (r : Refusal) (old : Option (List ℕ)) (Error : List ℕ → Type 0)
    → IsTrueOf (Some (of_make path)) (Some bytes) certificate rose r → Error (refusal_line r) → IsDecided (status_of r)
    → Gives bytes [] (Some (of_make path)) (status_of r) (Grows old old) Error
made-decided path bytes certificate rose refusals.Usage old Error is line = absurd (none-some (of_make path) (sym is))
made-decided path bytes certificate rose (refusals.Malformed fault) old Error is line = λ _. given (refusals.Malformed fault) old Error (IsAnswer.malformed is.1) line
made-decided path bytes certificate rose refusals.ReadFault old Error is line = λ not. absurd not
made-decided path bytes certificate rose refusals.WriteFault old Error is line = λ not. absurd not
made-decided path bytes certificate rose refusals.Memory old Error is line = λ not. absurd not
made-decided path bytes certificate rose refusals.NoText old Error is line = absurd is.0
made-decided path bytes certificate rose refusals.Refused old Error is line = absurd is.0

tested-decided : (path other bytes text : List ℕ) (rose : Type 0) (r : Refusal) (old : Option (List ℕ)) (Error : List ℕ → Type 0)
    → IsTrueOf (Some (of_test path other)) (Some bytes) (Some text) rose r → Error (refusal_line r) → IsDecided (status_of r)
    → Gives bytes text (Some (of_test path other)) (status_of r) (Grows old old) Error
tested-decided path other bytes text rose refusals.Usage old Error is line = absurd (none-some (of_test path other) (sym is))
tested-decided path other bytes text rose (refusals.Malformed fault) old Error is line = λ _. given (refusals.Malformed fault) old Error (IsAnswer.malformed is.1) line
tested-decided path other bytes text rose refusals.ReadFault old Error is line = λ not. absurd not
tested-decided path other bytes text rose refusals.WriteFault old Error is line = λ not. absurd not
tested-decided path other bytes text rose refusals.Memory old Error is line = λ not. absurd not
tested-decided path other bytes text rose refusals.NoText old Error is line = λ _. given refusals.NoText old Error (IsAnswer.no_text is.1) line
tested-decided path other bytes text rose refusals.Refused old Error is line = λ _. given refusals.Refused old Error (IsAnswer.refused is.1) line

pub decided-true : (asked : Option Asked) (file certificate : Option (List ℕ)) (rose : Type 0) (r : Refusal) (old : Option (List ℕ)) (Error : List ℕ → Type 0)
    → (asked ≡ None → r ≡ refusals.Usage) → IsTrueOf asked file certificate rose r → Error (refusal_line r)
    → OverInputs asked file certificate (λ bytes text. IsDecided (status_of r) → Gives bytes text asked (status_of r) (Grows old old) Error)
decided-true None file certificate rose r old Error usage is line =
    subst (λ (x : Refusal). IsDecided (status_of x) → Gives [] [] None (status_of x) (Grows old old) Error) (sym (usage refl))
    (λ _. given refusals.Usage old Error IsAnswer.usage (subst (λ (x : Refusal). Error (refusal_line x)) (usage refl) line))
decided-true (Some (of_make path)) None certificate rose r old Error usage is line = tt
decided-true (Some (of_make path)) (Some bytes) certificate rose r old Error usage is line = made-decided path bytes certificate rose r old Error is line
decided-true (Some (of_test path other)) None certificate rose r old Error usage is line = tt
decided-true (Some (of_test path other)) (Some bytes) None rose r old Error usage is line = tt
decided-true (Some (of_test path other)) (Some bytes) (Some text) rose r old Error usage is line = tested-decided path other bytes text rose r old Error is line

module _ (asked : Option Asked) (file certificate : Option (List ℕ)) (rose : Type 0) where
  -- The line of a malformed file names its first fault.
  pub ends-malformed : (r : Refusal) (Error : List ℕ → Type 0) → IsTrueOf asked file certificate rose r → Error (refusal_line r)
      → status_of r ≡ statuses.Malformed → AsksFile asked × IfSome file (λ bytes. NamesFault bytes Error)
  ends-malformed refusals.Usage Error is line ends = absurd (cc)
  ends-malformed (refusals.Malformed fault) Error is line ends =
      (is.0, IfSome_then file is.1 (λ bytes first. record { fault = fault; is_first = first; line = line }))
  ends-malformed refusals.ReadFault Error is line ends = absurd (cc)
  ends-malformed refusals.WriteFault Error is line ends = absurd (cc)
  ends-malformed refusals.Memory Error is line ends = absurd (cc)
  ends-malformed refusals.NoText Error is line ends = absurd (cc)
  ends-malformed refusals.Refused Error is line ends = absurd (cc)

-- The line of a refusal is that of its status.
pub line-of : (r : Refusal) → IsLineOf (status_of r) (refusal_line r)
line-of refusals.Usage = refl
line-of (refusals.Malformed fault) = (fault, refl)
line-of refusals.ReadFault = refl
line-of refusals.WriteFault = refl
line-of refusals.Memory = refl
line-of refusals.NoText = refl
line-of refusals.Refused = refl

-- ---- what a decided run shows of the certificate

-- The answer of a decided test judges the certificate.
pub judged-by : (asked : Option Asked) (file certificate : Option (List ℕ)) (end : CheckStatus) (Output Error : List ℕ → Type 0)
    → OverInputs asked file certificate (λ bytes text. IsDecided end → Gives bytes text asked end Output Error)
    → OverBoth file certificate (λ bytes text. IsDecided end → AsksTest asked → Judges bytes text end)
judged-by asked None certificate end Output Error gives = tt
judged-by asked (Some bytes) None end Output Error gives = tt
judged-by None (Some bytes) (Some text) end Output Error gives = λ decided asks. absurd asks
judged-by (Some (of_make path)) (Some bytes) (Some text) end Output Error gives = λ decided asks. absurd asks
judged-by (Some (of_test path other)) (Some bytes) (Some text) end Output Error gives = λ decided asks.
    let gave = gives decided in
    subst (λ (s : CheckStatus). Judges bytes text s) (sym gave.status) (judges gave.is_answer)

-- That of a run that makes one shows that the file has no fault.
pub made-by : (asked : Option Asked) (file certificate : Option (List ℕ)) (end : CheckStatus) (Output Error : List ℕ → Type 0)
    → OverInputs asked file certificate (λ bytes text. IsDecided end → Gives bytes text asked end Output Error)
    → IfSome file (λ bytes. IsDecided end → AsksMake asked → (end ≡ statuses.Done) ↔ (first_fault bytes ≡ None))
made-by asked None certificate end Output Error gives = tt
made-by None (Some bytes) certificate end Output Error gives = λ decided asks. absurd asks
made-by (Some (of_make path)) (Some bytes) certificate end Output Error gives = λ decided asks.
    let gave = gives decided in
    subst (λ (s : CheckStatus). (s ≡ statuses.Done) ↔ (first_fault bytes ≡ None)) (sym gave.status) (made-exactly gave.is_answer)
made-by (Some (of_test path other)) (Some bytes) certificate end Output Error gives = λ decided asks. absurd asks

-- ---- writing

-- It holds over the inputs if what implies it does.
over-inputs-of : (asked : Option Asked) (file certificate : Option (List ℕ)) (P Q : List ℕ → List ℕ → Type 0)
    → ((bytes text : List ℕ) → P bytes text → Q bytes text) → OverInputs asked file certificate P → OverInputs asked file certificate Q
over-inputs-of None file certificate P Q f p = f [] [] p
over-inputs-of (Some (of_make path)) None certificate P Q f p = tt
over-inputs-of (Some (of_make path)) (Some bytes) certificate P Q f p = f bytes [] p
over-inputs-of (Some (of_test path other)) None certificate P Q f p = tt
over-inputs-of (Some (of_test path other)) (Some bytes) None P Q f p = tt
over-inputs-of (Some (of_test path other)) (Some bytes) (Some text) P Q f p = f bytes text p

module _ (asked : Option Asked) (file certificate : Option (List ℕ)) where
  -- A text that is the answer was given, if it was written whole.
  pub text-given : (written : List ℕ) (Output Error : List ℕ → Type 0) → Output written → Error []
      → OverInputs asked file certificate (λ bytes text. IsAnswer bytes text asked (text_answer written))
      → OverInputs asked file certificate (λ bytes text. IsDecided statuses.Done → Gives bytes text asked statuses.Done Output Error)
  text-given written Output Error output error is =
      over-inputs-of asked file certificate _ _ (λ bytes text answer decided. record { answer = text_answer written; is_answer = answer; status = refl; output = output; error = error }) is
