use Rattle.std.proofs.Common.{◌≡◌, List, ℕ, None, Some, sym, subst}
use Rattle.cfg_words.specs.declared.asked.Request.{Request}
use Rattle.cfg_words.specs.Request.{asked, of_file}
use Rattle.run_ends.specs.Inputs.{FileReadFor}
use Rattle.run_ends.proofs.Inputs.{nothing-read}
use Rattle.cfg_run.specs.declared.status.Status.TheVariants as statuses
use Rattle.cfg_run.specs.Words.{path_of}
use Rattle.cfg_run.specs.Run.{HasRead}
use Rattle.cfg_run.specs.Inner.{end_of}
use Rattle.cfg_run.proofs.Endings.{made-unread}
use Rattle.cfg_run.proofs.whole_run.text_for.Goals as goal

pub returns-in-File-clause-input : goal.returns-in-File-clause-input
returns-in-File-clause-input g c =
    let I = g.I.Input in
    let end = end_of c.file_report.result in
    subst (λ (r : Request). FileReadFor (path_of (Some (asked r))) (HasRead (Some (asked r)) end) (end ≡ statuses.Malformed) (I.tells_path c.args.input.now) (I.opened c.file_report.new.input)
    (I.rest c.args.input.now) (I.rest c.file_report.new.input) (I.faults c.args.input.now) (I.faults c.file_report.new.input))
    (sym c.in-File.is)
    (subst (λ (path : List ℕ). FileReadFor (Some path) (HasRead (Some (of_file path c.in-File.workers c.in-File.kind)) end) (end ≡ statuses.Malformed) (I.tells_path c.args.input.now) (I.opened c.file_report.new.input)
    (I.rest c.args.input.now) (I.rest c.file_report.new.input) (I.faults c.args.input.now) (I.faults c.file_report.new.input))
    c.as_str.ensures.value (c.file_report.ensures.input c.in-File.workers))

pub returns-in-Make-clause-input : goal.returns-in-Make-clause-input
returns-in-Make-clause-input g c =
    let I = g.I.Input in
    let end = end_of c.summary_of.result in
    subst (λ (r : Request). FileReadFor (path_of (Some (asked r))) (HasRead (Some (asked r)) end) (end ≡ statuses.Malformed) (I.tells_path c.args.input.now) (I.opened c.args.input.now)
    (I.rest c.args.input.now) (I.rest c.args.input.now) (I.faults c.args.input.now) (I.faults c.args.input.now))
    (sym c.in-Make.is)
    (nothing-read None _ _ (I.tells_path c.args.input.now) (I.opened c.args.input.now) (I.rest c.args.input.now) (I.faults c.args.input.now) c.requires.closed (made-unread c.in-Make.n c.in-Make.workers end))
