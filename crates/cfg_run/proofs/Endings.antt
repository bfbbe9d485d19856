-- How a run ends: what each refusal leaves, by its kind.
use Rattle.std.proofs.Common.{cond, ◌≡◌, ℕ, ◌≤◌, List, Option, Some, None, refl, sym, subst, arith}
use Rattle.std.specs.Prelude.{IfSome, nat_le, ◌&&◌, codes, Bool, true, false}
use Rattle.std.specs.Option.{option_and_then}
use Rattle.std.proofs.lemmas.Bool.{leb-true}
use Rattle.std.proofs.lemmas.Option.{cond_some, same_Some, none-some}
use Rattle.elf_image.specs.declared.fault.ElfError.{ElfError}
use Rattle.elf_image.specs.declared.fault.ElfError.TheVariants as errors
use Rattle.elf_image.specs.declared.fault.Fault.TheVariants.{TooLarge}
use Rattle.elf_image.specs.Faults.{first_fault}
use Rattle.cfg_io.specs.Told.{TakesCount}
use Rattle.graph_report.specs.declared.kind.ReportKind.{ReportKind}
use Rattle.cfg_words.specs.Command.{is_taken, text_of}
use Rattle.cfg_words.specs.Value.{number_of, kept_within, number_within, workers_of, report_kind_of}
use Rattle.cfg_words.specs.Request.{Asked, of_file, of_made, file_request, make_request, request_with, request_of}
use Rattle.cfg_words.specs.declared.error.WordsError.{WordsError}
use Rattle.cfg_words.specs.declared.error.WordsError.TheVariants as words
use Rattle.cfg_run.specs.declared.refusal.Refusal.{Refusal}
use Rattle.cfg_run.specs.declared.refusal.Refusal.TheVariants as refusals
use Rattle.cfg_run.specs.declared.status.Status.{Status}
use Rattle.cfg_run.specs.declared.status.Status.TheVariants as statuses
use Rattle.cfg_run.specs.Answer.{IsAnswer, refused_with}
use Rattle.run_ends.specs.declared.reading.Unread.{Unread}
use Rattle.run_ends.specs.declared.reading.Unread.TheVariants as unread
use Rattle.cfg_run.specs.Refusal.{status_of, refusal_of, refusal_of_words, refusal_of_unread}
use Rattle.file_graph.specs.Survey.{IsFaultOf}
use Rattle.cfg_run.specs.Words.{path_of, CanBeMade}
use Rattle.cfg_run.specs.Lines.{refusal_line}
use Rattle.cfg_run.specs.Inner.{IsRefusalOf, IsTrueOf}
use Rattle.run_ends.specs.Told.{Grows}
use Rattle.run_ends.specs.Inputs.{AreBytesFor, OverInput}
use Rattle.run_ends.proofs.Inputs.{taken-too-large}
use Rattle.run_ends.proofs.Pieces.{appends-nothing}
use Rattle.cfg_run.specs.Run.{IsDecided, HasRead, Gives, IsLineOf}

-- ---- reading

-- What reading refuses is true of the file that is asked for.
module _ (path : List ℕ) (workers : ℕ) (kind : ReportKind) where
  pub unread-true : (told new : Option (List ℕ)) (rose : Type 0) (e : Unread) → (e ≡ unread.ReadFault → rose)
      → (e ≡ unread.TooLarge → TakesCount told 67108865 new) → IsTrueOf (Some (of_file path workers kind)) told rose (refusal_of_unread e)
  unread-true told new rose unread.ReadFault failed takes = (tt, failed refl)
  unread-true told new rose unread.TooLarge failed takes = (
    tt,
    λ bytes are.
        IsAnswer.malformed
        (subst (λ (t : Option (List ℕ)). IfSome t (λ b. first_fault b ≡ Some TooLarge)) are (taken-too-large told new (takes refl))),
  )
  unread-true told new rose unread.Memory failed takes = tt

  -- So is what the bytes that were read refuse.
  pub fault-true : (told : Option (List ℕ)) (bytes : List ℕ) (rose : Type 0) (r : Refusal) → IfSome told (λ b. b ≡ bytes) → IsRefusalOf bytes r
      → IsTrueOf (Some (of_file path workers kind)) told rose r
  fault-true told bytes rose refusals.Usage same is = absurd is
  fault-true told bytes rose (refusals.Malformed fault) same is = (
    tt,
    λ b are.
        let e : b ≡ bytes = subst (λ (t : Option (List ℕ)). IfSome t (λ x. x ≡ bytes)) are same in
        IsAnswer.malformed (subst (λ (x : List ℕ). first_fault x ≡ Some fault) (sym e) is),
  )
  fault-true told bytes rose refusals.ReadFault same is = absurd is
  fault-true told bytes rose refusals.WriteFault same is = absurd is
  fault-true told bytes rose refusals.Memory same is = tt

-- What making the graph refuses is true of the bytes.
pub refusal-of : (bytes : List ℕ) (e : ElfError) → IsFaultOf bytes e → IsRefusalOf bytes (refusal_of e)
refusal-of bytes (errors.Malformed fault) is = is
refusal-of bytes errors.Memory is = tt

-- ---- refusing

pub decided-true : (asked : Option Asked) (told : Option (List ℕ)) (rose : Type 0) (r : Refusal) (old : Option (List ℕ)) (Error : List ℕ → Type 0)
    → IsTrueOf asked told rose r → Error (refusal_line r) → OverInput (path_of asked) told (λ bytes. IsDecided (status_of r) → Gives bytes asked (status_of r) (Grows old old) Error)
decided-true asked told rose refusals.Usage old Error is line = λ bytes are _. record {
  answer = refused_with refusals.Usage;
  is_answer = subst (λ (a : Option Asked). IsAnswer bytes a (refused_with refusals.Usage)) (sym is) IsAnswer.usage;
  status = refl;
  output = appends-nothing old;
  error = line;
}
decided-true asked told rose (refusals.Malformed fault) old Error is line = λ bytes are _. record {
  answer = refused_with (refusals.Malformed fault);
  is_answer = is.1 bytes are;
  status = refl;
  output = appends-nothing old;
  error = line;
}
decided-true asked told rose refusals.ReadFault old Error is line = λ bytes are no. absurd no
decided-true asked told rose refusals.WriteFault old Error is line = λ bytes are no. absurd no
decided-true asked told rose refusals.Memory old Error is line = λ bytes are no. absurd no

-- The bytes of an input that tells them count, whatever is asked for.
pub told-count : (asked : Option Asked) (bytes : List ℕ) → AreBytesFor (path_of asked) (Some bytes) bytes
told-count None bytes = tt
told-count (Some (of_file path workers kind)) bytes = refl
told-count (Some (of_made n workers)) bytes = tt

-- The line of a refusal is that of its status.
pub line-of : (r : Refusal) → IsLineOf (status_of r) (refusal_line r)
line-of refusals.Usage = refl
line-of (refusals.Malformed fault) = (fault, refl)
line-of refusals.ReadFault = refl
line-of refusals.WriteFault = refl
line-of refusals.Memory = refl

-- Of a made program no file is read, however the run ends.
pub made-unread : (n workers : ℕ) (end : Status) → ¬ HasRead (Some (of_made n workers)) end
made-unread n workers statuses.Done = λ read. absurd read
made-unread n workers statuses.Usage = λ read. absurd read
made-unread n workers statuses.Malformed = λ read. absurd read
made-unread n workers statuses.ReadFault = λ read. absurd read
made-unread n workers statuses.WriteFault = λ read. absurd read
made-unread n workers statuses.Memory = λ read. absurd read

-- Words that make no request name no file that was read.
pub words-unread : (asked : Option Asked) (e : WordsError) → ¬ HasRead asked (status_of (refusal_of_words e))
words-unread asked words.Usage = λ read. absurd read
words-unread asked words.Memory = λ read. absurd read

-- Words that make no request ask for nothing, or memory ran out.
pub words-true : (asked : Option Asked) (told : Option (List ℕ)) (rose : Type 0) (e : WordsError) → (e ≡ words.Usage → asked ≡ None) → IsTrueOf asked told rose (refusal_of_words e)
words-true asked told rose words.Usage none = none refl
words-true asked told rose words.Memory none = tt

-- ---- the size of a made program

sized : (o : Option Asked) (a : Asked) → o ≡ Some a → IfSome o CanBeMade → CanBeMade a
sized None a is all = absurd (none-some a is)
sized (Some x) a is all = subst CanBeMade (same_Some x a is) all

both : (a b : Bool) → (a && b) ≡ true → (a ≡ true) × (b ≡ true)
both true b is = (refl, is)
both false b is = absurd (cc)

within : (n least most : ℕ) (kept : ℕ) → kept_within least most n ≡ Some kept → (least ≤ kept) × (kept ≤ most)
within n least most kept is =
    let parts = cond_some (nat_le least n && nat_le n most) n kept is in
    let tests = both (nat_le least n) (nat_le n most) parts.0 in
    let low : least ≤ n = leb-true least n tests.0 in
    let high : n ≤ most = leb-true n most tests.1 in
    (omega (arith, parts.1), omega (arith, parts.1))

number : (o : Option ℕ) (kept : ℕ) → option_and_then (kept_within 4 100000) o ≡ Some kept → (4 ≤ kept) × (kept ≤ 100000)
number None kept is = absurd (none-some kept is)
number (Some n) kept is = within n 4 100000 kept is

file : (path : List ℕ) (workers : Option ℕ) (kind : Option ReportKind) → IfSome (file_request path workers kind) CanBeMade
file path (Some w) (Some k) = tt
file path (Some w) None = tt
file path None k = tt

make : (o workers : Option ℕ) → ((n : ℕ) → o ≡ Some n → (4 ≤ n) × (n ≤ 100000)) → IfSome (make_request o workers) CanBeMade
make (Some n) (Some w) within = within n refl
make (Some n) None within = tt
make None w within = tt

request : (workers report made path : Option (List ℕ)) → IfSome (request_with workers report made path) CanBeMade
request workers report None (Some path) = file path (workers_of workers) (report_kind_of report)
request workers None (Some n) None = make (number_within 4 100000 n) (workers_of workers) (number (number_of n))
request workers report None None = tt
request workers (Some word) (Some n) None = tt
request workers report (Some n) (Some path) = tt

taken : (b : Bool) (o : Option Asked) → IfSome o CanBeMade → IfSome (cond b o None) CanBeMade
taken true o all = all
taken false o all = tt

-- What words ask for can be made.
pub can-be-made : (words : List (List ℕ)) (a : Asked) → request_of words ≡ Some a → CanBeMade a
can-be-made words a is =
    sized (request_of words) a is
    (taken (is_taken words) _ (request (text_of words (codes "workers")) (text_of words (codes "report")) (text_of words (codes "make")) (text_of words (codes "file"))))
