use Rattle.check_run.proofs.Endings.{made-true}
use Rattle.check_run.proofs.whole_run.made.Goals as goal

pub returns-clause-done : goal.returns-clause-done
returns-clause-done g c =
    made-true c.args.path.now (g.I.Input.rest c.args.file.now) c.in_ok-seeded.seeded c.in_ok-canonical.field-0.items
    c.in_ok-seeded.ensures.same c.in_ok-seeded.ensures.accepted c.in_ok-canonical.ensures.text
