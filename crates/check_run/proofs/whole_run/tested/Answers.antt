use Rattle.check_run.proofs.Endings.{report-true}
use Rattle.check_run.proofs.whole_run.tested.Goals as goal

pub returns-clause-done : goal.returns-clause-done
returns-clause-done g c =
    report-true c.args.file_path.now c.args.certificate_path.now (g.I.Input.rest c.args.file.now) (g.J.Input.rest c.args.certificate.now)
    c.in_ok-seeded.seeded c.in_ok-seeded.ensures.same c.in_ok-seeded.ensures.accepted c.in_ok-certificate.certificate c.in_ok-certified.field-0
    c.in_ok-certificate.ensures.held c.in_ok-certified.ensures.valid c.in_ok-certified.ensures.report
