use Rattle.std.proofs.Common.{ap, sym, subst}
use Rattle.std.specs.Prelude.{Err}
use Rattle.cfg_io.specs.Fault.{Rose}
use Rattle.run_ends.specs.declared.reading.Unread.{Unread}
use Rattle.check_run.specs.declared.refusal.Refusal.{Refusal}
use Rattle.check_run.specs.Inner.{IsTrueOfFile}
use Rattle.check_run.proofs.Endings.{unread-file}
use Rattle.check_run.proofs.reading.file_at.Goals as goal

pub returns-in-Err-clause-refused : goal.returns-in-Err-clause-refused
returns-in-Err-clause-refused g c =
    let told = g.I.Input.rest c.args.input.now in
    let new = g.I.Input.rest c.read_file.new.input in
    let rose = Rose (g.I.Input.faults c.args.input.now) (g.I.Input.faults c.read_file.new.input) in
    subst (λ (r : Refusal). IsTrueOfFile told rose r) (sym c.of_file.ensures) (unread-file told new rose c.in-Err.e
    (λ e. c.in-Err.ensures.read_fault (ap (λ (r : Unread). Err r) e))
    (λ e. c.in-Err.ensures.over_limit (ap (λ (r : Unread). Err r) e)))
