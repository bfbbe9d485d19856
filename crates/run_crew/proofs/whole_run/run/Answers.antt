use Rattle.std.proofs.Common.{◌≡◌, List, ℕ, Option, sym, ap, subst, ◌∙◌}
use Rattle.std.specs.Prelude.{map, string_bytes}
use Rattle.cfg_io.specs.Fault.{Rose}
use Rattle.cfg_words.specs.Request.{Asked, asked}
use Rattle.cfg_run.specs.declared.status.Status.{Status}
use Rattle.cfg_run.specs.declared.status.Status.TheVariants as statuses
use Rattle.cfg_run.specs.Refusal.{status_of}
use Rattle.cfg_run.specs.Words.{asked_by, path_of}
use Rattle.cfg_run.specs.Inner.{IsTrueOf}
use Rattle.run_ends.specs.Told.{Grows, Tells}
use Rattle.run_ends.specs.Inputs.{OverInput, FileReadFor}
use Rattle.run_ends.proofs.Inputs.{nothing-read}
use Rattle.cfg_run.specs.Run.{IsDecided, HasRead, Gives}
use Rattle.cfg_run.proofs.Endings.{decided-true, words-true, words-unread, can-be-made}
use Rattle.run_crew.proofs.whole_run.run.Goals as goal

pub returns-in-Err-clause-answer : goal.returns-in-Err-clause-answer
returns-in-Err-clause-answer g c =
    let told = g.I.Input.rest c.args.input.now in
    let words = c.args.words.now in
    let out = g.O.Sink.written c.args.out.now in
    let Error : List ℕ → Type 0 = Tells (g.E.Sink.written c.args.err.now) (g.E.Sink.written c.refuse.new.err) (Rose (g.E.Sink.faults c.args.err.now) (g.E.Sink.faults c.refuse.new.err)) in
    let true_of : IsTrueOf (asked_by words) told ⊥ c.from.result =
    subst (IsTrueOf (asked_by words) told ⊥) (sym c.from.ensures)
    (words-true (asked_by words) told ⊥ c.in-Err.e c.in-Err.ensures.usage) in
    subst (λ (s : Status). OverInput (path_of (asked_by words)) told (λ bytes. IsDecided s → Gives bytes (asked_by words) s (Grows out out) Error)) (sym c.refuse.ensures.status)
    (decided-true (asked_by words) told ⊥ c.from.result out Error true_of c.refuse.ensures.line)

pub run_by-requires-clause-size : goal.run_by-requires-clause-size
run_by-requires-clause-size g c = can-be-made (map (λ w. string_bytes w) c.args.words.now) (asked c.in-Ok.request) c.in-Ok.ensures.request

pub run_by-requires-2-clause-size : goal.run_by-requires-2-clause-size
run_by-requires-2-clause-size g c = can-be-made (map (λ w. string_bytes w) c.args.words.now) (asked c.in-Ok.request) c.in-Ok.ensures.request

pub returns-in-Err-clause-input : goal.returns-in-Err-clause-input
returns-in-Err-clause-input g c =
    let I = g.I.Input in
    let asked = asked_by c.args.words.now in
    subst (λ (s : Status). FileReadFor (path_of asked) (HasRead asked s) (s ≡ statuses.Malformed) (I.tells_path c.args.input.now) (I.opened c.args.input.now)
    (I.rest c.args.input.now) (I.rest c.args.input.now) (I.faults c.args.input.now) (I.faults c.args.input.now))
    (sym (c.refuse.ensures.status ∙ ap status_of c.from.ensures))
    (nothing-read (path_of asked) _ _ (I.tells_path c.args.input.now) (I.opened c.args.input.now) (I.rest c.args.input.now) (I.faults c.args.input.now) c.requires (words-unread asked c.in-Err.e))

pub returns-then-count-le64-clause-input : goal.returns-then-count-le64-clause-input
returns-then-count-le64-clause-input g c =
    let I = g.I.Input in
    subst (λ (o : Option Asked). FileReadFor (path_of o) (HasRead o c.run_by.result) (c.run_by.result ≡ statuses.Malformed) (I.tells_path c.args.input.now) (I.opened c.run_by.new.input)
    (I.rest c.args.input.now) (I.rest c.run_by.new.input) (I.faults c.args.input.now) (I.faults c.run_by.new.input))
    (sym c.in-Ok.ensures.request) c.run_by.ensures.input

pub returns-clause-input : goal.returns-clause-input
returns-clause-input g c =
    let I = g.I.Input in
    subst (λ (o : Option Asked). FileReadFor (path_of o) (HasRead o c.run_by-2.result) (c.run_by-2.result ≡ statuses.Malformed) (I.tells_path c.args.input.now) (I.opened c.run_by-2.new.input)
    (I.rest c.args.input.now) (I.rest c.run_by-2.new.input) (I.faults c.args.input.now) (I.faults c.run_by-2.new.input))
    (sym c.in-Ok.ensures.request) c.run_by-2.ensures.input
