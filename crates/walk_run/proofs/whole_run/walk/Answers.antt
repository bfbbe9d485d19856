use Rattle.std.proofs.Common.{◌≡◌, List, ℕ, sym, subst}
use Rattle.cfg_io.specs.Fault.{Rose}
use Rattle.run_ends.specs.Told.{Grows, Tells}
use Rattle.run_ends.specs.Inputs.{OverInput, FileReadFor}
use Rattle.walk_run.specs.declared.status.WalkStatus.{WalkStatus}
use Rattle.walk_run.specs.declared.status.WalkStatus.TheVariants as statuses
use Rattle.walk_run.specs.Words.{asked_by, path_of}
use Rattle.walk_run.specs.Lines.{refusal_line}
use Rattle.walk_run.specs.Run.{IsDecided, HasRead, Gives, IsLineOf}
use Rattle.walk_run.proofs.Endings.{decided-true, line-of}
use Rattle.walk_run.proofs.whole_run.walk.Goals as goal

pub returns-in-Err-clause-answer : goal.returns-in-Err-clause-answer
returns-in-Err-clause-answer g c =
    let told = g.I.Input.rest c.args.input.now in
    let rose = Rose (g.I.Input.faults c.args.input.now) (g.I.Input.faults c.trace_for.new.input) in
    let asked = asked_by c.args.words.now in
    let out = g.O.Sink.written c.args.out.now in
    let Error : List ℕ → Type 0 = Tells (g.E.Sink.written c.args.err.now) (g.E.Sink.written c.refuse.new.err) (Rose (g.E.Sink.faults c.args.err.now) (g.E.Sink.faults c.refuse.new.err)) in
    subst (λ (s : WalkStatus). OverInput (path_of asked) told (λ bytes. IsDecided s → Gives bytes asked s (Grows out out) Error)) (sym c.refuse.ensures.status)
    (decided-true asked told rose c.in-Err.refusal out Error c.in-Err.ensures.refused c.refuse.ensures.line)

pub returns-in-Err-clause-error_line : goal.returns-in-Err-clause-error_line
returns-in-Err-clause-error_line g c = (
  refusal_line c.in-Err.refusal,
  subst (λ (s : WalkStatus). IsLineOf s (refusal_line c.in-Err.refusal)) (sym c.refuse.ensures.status) (line-of c.in-Err.refusal),
  c.refuse.ensures.line,
)

pub returns-in-Err-clause-input : goal.returns-in-Err-clause-input
returns-in-Err-clause-input g c =
    let I = g.I.Input in
    subst (λ (s : WalkStatus). FileReadFor (path_of (asked_by c.args.words.now)) (HasRead s) (s ≡ statuses.Malformed) (I.tells_path c.args.input.now) (I.opened c.trace_for.new.input)
    (I.rest c.args.input.now) (I.rest c.trace_for.new.input) (I.faults c.args.input.now) (I.faults c.trace_for.new.input))
    (sym c.refuse.ensures.status) c.in-Err.ensures.input
