use Rattle.std.proofs.Common.{List, ℕ, subst}
use Rattle.std.specs.Prelude.{codes}
use Rattle.cfg_io.specs.Fault.{Rose}
use Rattle.run_ends.specs.Told.{Tells}
use Rattle.run_ends.specs.Line.{failure_line}
use Rattle.check_run.specs.Lines.{detail_of}
use Rattle.check_run.proofs.refusal.Refusal.report.Goals as goal

-- The line has the text and the detail of the refusal.
pub returns : goal.returns
returns g c =
    let Says : List ℕ → Type 0 = Tells (g.E.Sink.written c.args.err.now) (g.E.Sink.written c.write_failure.new.err) (Rose (g.E.Sink.faults c.args.err.now) (g.E.Sink.faults c.write_failure.new.err)) in
    subst (λ (text : List ℕ). Says (failure_line (codes "cfg_check") text (detail_of c.args.self.now))) c.text.ensures
    (subst (λ (detail : List ℕ). Says (failure_line (codes "cfg_check") c.text.result.now detail)) c.detail.ensures c.write_failure.ensures)
