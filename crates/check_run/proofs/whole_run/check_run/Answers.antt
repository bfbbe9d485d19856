use Rattle.std.proofs.Common.{◌≡◌, List, [], ℕ, Option, Some, None, sym, subst, ◌∙◌}
use Rattle.std.specs.Prelude.{IfSome}
use Rattle.cfg_io.specs.Fault.{Rose}
use Rattle.run_ends.specs.Told.{Grows, Tells}
use Rattle.check_run.specs.declared.status.CheckStatus.{CheckStatus}
use Rattle.check_run.specs.declared.status.CheckStatus.TheVariants as statuses
use Rattle.check_run.specs.declared.refusal.Refusal.{Refusal}
use Rattle.check_run.specs.declared.refusal.Refusal.TheVariants as refusals
use Rattle.check_run.specs.Words.{Asked, of_make, of_test, asked_by, AsksFile}
use Rattle.check_run.specs.Refusal.{status_of}
use Rattle.check_run.specs.Inner.{IsTrueOf}
use Rattle.check_run.specs.Text.{bytes_of}
use Rattle.check_run.specs.Lines.{refusal_line}
use Rattle.check_run.specs.Run.{IsDecided, OverInputs, FailedToRead, Gives, NamesFault, IsLineOf}
use Rattle.check_run.proofs.Endings.{err-same, decided-true, ends-malformed, line-of, judged-by, made-by, text-given}
use Rattle.check_run.proofs.whole_run.check_run.Goals as goal

-- No step before the writing answers that it failed.
not-written : (asked : Option Asked) (file certificate : Option (List ℕ)) (rose : Type 0) (r : Refusal) → IsTrueOf asked file certificate rose r → ¬ (status_of r ≡ statuses.WriteFault)
not-written asked file certificate rose refusals.Usage is ends = absurd (cc)
not-written asked file certificate rose (refusals.Malformed fault) is ends = absurd (cc)
not-written asked file certificate rose refusals.ReadFault is ends = absurd (cc)
not-written asked file certificate rose refusals.WriteFault is ends = absurd is
not-written asked file certificate rose refusals.Memory is ends = absurd (cc)
not-written asked file certificate rose refusals.NoText is ends = absurd (cc)
not-written asked file certificate rose refusals.Refused is ends = absurd (cc)

-- What holds of all bytes holds over the inputs.
over-all : (asked : Option Asked) (file certificate : Option (List ℕ)) (P : List ℕ → List ℕ → Type 0) → ((bytes text : List ℕ) → P bytes text) → OverInputs asked file certificate P
over-all None file certificate P p = p [] []
over-all (Some (of_make path)) None certificate P p = tt
over-all (Some (of_make path)) (Some bytes) certificate P p = p bytes []
over-all (Some (of_test path other)) None certificate P p = tt
over-all (Some (of_test path other)) (Some bytes) None P p = tt
over-all (Some (of_test path other)) (Some bytes) (Some text) P p = p bytes text

pub returns-in-Err-clause-answer : goal.returns-in-Err-clause-answer
returns-in-Err-clause-answer g c =
    let asked = asked_by c.args.words.now in
    let file = g.I.Input.rest c.args.file.now in
    let certificate = g.J.Input.rest c.args.certificate.now in
    let rose = FailedToRead asked (Rose (g.I.Input.faults c.args.file.now) (g.I.Input.faults c.text_for.new.file))
    (Rose (g.J.Input.faults c.args.certificate.now) (g.J.Input.faults c.text_for.new.certificate)) in
    let out = g.O.Sink.written c.args.out.now in
    let Error : List ℕ → Type 0 = Tells (g.E.Sink.written c.args.err.now) (g.E.Sink.written c.refuse.new.err) (Rose (g.E.Sink.faults c.args.err.now) (g.E.Sink.faults c.refuse.new.err)) in
    subst (λ (s : CheckStatus). OverInputs asked file certificate (λ bytes text. IsDecided s → Gives bytes text asked s (Grows out out) Error)) (sym c.refuse.ensures.status)
    (decided-true asked file certificate rose c.in-Err.refusal out Error (λ none. err-same (c.in-Err.ensures.usage none)) c.in-Err.ensures.refused c.refuse.ensures.line)

pub returns-in-Err-clause-malformed : goal.returns-in-Err-clause-malformed
returns-in-Err-clause-malformed g c =
    let asked = asked_by c.args.words.now in
    let file = g.I.Input.rest c.args.file.now in
    let certificate = g.J.Input.rest c.args.certificate.now in
    let rose = FailedToRead asked (Rose (g.I.Input.faults c.args.file.now) (g.I.Input.faults c.text_for.new.file))
    (Rose (g.J.Input.faults c.args.certificate.now) (g.J.Input.faults c.text_for.new.certificate)) in
    let Error : List ℕ → Type 0 = Tells (g.E.Sink.written c.args.err.now) (g.E.Sink.written c.refuse.new.err) (Rose (g.E.Sink.faults c.args.err.now) (g.E.Sink.faults c.refuse.new.err)) in
    subst (λ (s : CheckStatus). s ≡ statuses.Malformed → AsksFile asked × IfSome file (λ bytes. NamesFault bytes Error)) (sym c.refuse.ensures.status)
    (ends-malformed asked file certificate rose c.in-Err.refusal Error c.in-Err.ensures.refused c.refuse.ensures.line)

pub returns-in-Err-clause-made : goal.returns-in-Err-clause-made
returns-in-Err-clause-made g c =
    made-by (asked_by c.args.words.now) (g.I.Input.rest c.args.file.now) (g.J.Input.rest c.args.certificate.now) c.refuse.result _ _
    (returns-in-Err-clause-answer g c)

pub returns-in-Err-clause-judged : goal.returns-in-Err-clause-judged
returns-in-Err-clause-judged g c =
    judged-by (asked_by c.args.words.now) (g.I.Input.rest c.args.file.now) (g.J.Input.rest c.args.certificate.now) c.refuse.result _ _
    (returns-in-Err-clause-answer g c)

pub returns-in-Err-clause-cut_off : goal.returns-in-Err-clause-cut_off
returns-in-Err-clause-cut_off g c =
    let asked = asked_by c.args.words.now in
    let file = g.I.Input.rest c.args.file.now in
    let certificate = g.J.Input.rest c.args.certificate.now in
    let rose = FailedToRead asked (Rose (g.I.Input.faults c.args.file.now) (g.I.Input.faults c.text_for.new.file))
    (Rose (g.J.Input.faults c.args.certificate.now) (g.J.Input.faults c.text_for.new.certificate)) in
    over-all asked file certificate _ (λ bytes text ends. absurd (not-written asked file certificate rose c.in-Err.refusal c.in-Err.ensures.refused (sym c.refuse.ensures.status ∙ ends)))

pub returns-in-Err-clause-error_line : goal.returns-in-Err-clause-error_line
returns-in-Err-clause-error_line g c = (
  refusal_line c.in-Err.refusal,
  subst (λ (s : CheckStatus). IsLineOf s (refusal_line c.in-Err.refusal)) (sym c.refuse.ensures.status) (line-of c.in-Err.refusal),
  c.refuse.ensures.line,
)

pub returns-in-Ok-written-clause-made : goal.returns-in-Ok-written-clause-made
returns-in-Ok-written-clause-made g c =
    let asked = asked_by c.args.words.now in
    let file = g.I.Input.rest c.args.file.now in
    let certificate = g.J.Input.rest c.args.certificate.now in
    made-by asked file certificate statuses.Done (λ written. Unit {0}) (λ line. Unit {0})
    (text-given asked file certificate (bytes_of c.in-Ok.text) (λ written. Unit {0}) (λ line. Unit {0}) tt tt c.in-Ok.ensures.done)

pub returns-in-Ok-written-clause-judged : goal.returns-in-Ok-written-clause-judged
returns-in-Ok-written-clause-judged g c =
    let asked = asked_by c.args.words.now in
    let file = g.I.Input.rest c.args.file.now in
    let certificate = g.J.Input.rest c.args.certificate.now in
    judged-by asked file certificate statuses.Done (λ written. Unit {0}) (λ line. Unit {0})
    (text-given asked file certificate (bytes_of c.in-Ok.text) (λ written. Unit {0}) (λ line. Unit {0}) tt tt c.in-Ok.ensures.done)
