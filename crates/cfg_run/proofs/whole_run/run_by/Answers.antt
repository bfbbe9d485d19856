use Rattle.std.proofs.Common.{◌≡◌, List, ℕ, Option, Some, sym, subst}
use Rattle.cfg_io.specs.Fault.{Rose}
use Rattle.cfg_words.specs.Request.{Asked, asked}
use Rattle.cfg_run.specs.declared.status.Status.{Status}
use Rattle.cfg_run.specs.declared.status.Status.TheVariants as statuses
use Rattle.cfg_run.specs.Words.{path_of}
use Rattle.cfg_run.specs.Lines.{refusal_line}
use Rattle.run_ends.specs.Told.{Grows, Tells}
use Rattle.run_ends.specs.Inputs.{OverInput, FileReadFor}
use Rattle.cfg_run.specs.Run.{IsDecided, HasRead, Gives, IsLineOf}
use Rattle.cfg_run.proofs.Endings.{decided-true, line-of}
use Rattle.cfg_run.proofs.whole_run.run_by.Goals as goal

pub returns-in-Err-clause-answer : goal.returns-in-Err-clause-answer
returns-in-Err-clause-answer g c =
    let told = g.I.Input.rest c.args.input.now in
    let rose = Rose (g.I.Input.faults c.args.input.now) (g.I.Input.faults c.text_for.new.input) in
    let request : Option Asked = Some (asked c.args.request.now) in
    let out = g.O.Sink.written c.args.out.now in
    let Error : List ℕ → Type 0 = Tells (g.E.Sink.written c.args.err.now) (g.E.Sink.written c.refuse.new.err) (Rose (g.E.Sink.faults c.args.err.now) (g.E.Sink.faults c.refuse.new.err)) in
    subst (λ (s : Status). OverInput (path_of request) told (λ bytes. IsDecided s → Gives bytes request s (Grows out out) Error)) (sym c.refuse.ensures.status)
    (decided-true request told rose c.in-Err.refusal out Error c.in-Err.ensures.refused c.refuse.ensures.line)

pub returns-in-Err-clause-error_line : goal.returns-in-Err-clause-error_line
returns-in-Err-clause-error_line g c = (
  refusal_line c.in-Err.refusal,
  subst (λ (s : Status). IsLineOf s (refusal_line c.in-Err.refusal)) (sym c.refuse.ensures.status) (line-of c.in-Err.refusal),
  c.refuse.ensures.line,
)

pub returns-in-Err-clause-input : goal.returns-in-Err-clause-input
returns-in-Err-clause-input g c =
    let I = g.I.Input in
    let request : Option Asked = Some (asked c.args.request.now) in
    subst (λ (s : Status). FileReadFor (path_of request) (HasRead request s) (s ≡ statuses.Malformed) (I.tells_path c.args.input.now) (I.opened c.text_for.new.input)
    (I.rest c.args.input.now) (I.rest c.text_for.new.input) (I.faults c.args.input.now) (I.faults c.text_for.new.input))
    (sym c.refuse.ensures.status) c.in-Err.ensures.input
