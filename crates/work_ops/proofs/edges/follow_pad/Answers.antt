use Rattle.std.proofs.Common.{sym, subst}
use Rattle.std.specs.Prelude.{Contains}
use Rattle.std.proofs.lemmas.Result.{on_ok_weaker}
use Rattle.cfg_model.proofs.Program.Landing.{landing_follows}
use Rattle.work_ops.proofs.Reasons.{in_option, from_option}
use Rattle.work_ops.proofs.edges.follow_pad.Goals as goal

pub follow_some-requires-clause-way : goal.follow_some-requires-clause-way
follow_some-requires-clause-way g c κs within =
    λ to is. landing_follows g.J.Job.map c.args.k to c.requires.calls (subst (λ pads. Contains pads to) (sym c.pad_of-pad.ensures) (in_option c.pad_of-pad.result to is))

pub returns-clause-followed : goal.returns-clause-followed
returns-clause-followed g c =
    on_ok_weaker c.follow_some.result
    (λ one to there. one to (from_option c.pad_of-pad.result to (subst (λ pads. Contains pads to) c.pad_of-pad.ensures there)))
    c.follow_some.ensures.followed
