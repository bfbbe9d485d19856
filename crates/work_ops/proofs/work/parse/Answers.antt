use Rattle.std.proofs.Common.{sym, ap, ◌∙◌}
use Rattle.std.specs.Prelude.{Some}
use mathlib.Core.Logic.{inl}
use Rattle.std.proofs.lemmas.Result.{on_ok_weaker}
use Rattle.work_ops.proofs.Addresses.{left_wanted, parsed_not}
use Rattle.work_ops.proofs.Measuring.{parse_lowers}
use Rattle.work_ops.proofs.work.parse.Goals as goal

pub returns-in-Some-Wanted-clause-less : goal.returns-in-Some-Wanted-clause-less
returns-in-Some-Wanted-clause-less g c =
    on_ok_weaker c.parse_op.result
    (λ parsed. inl (parse_lowers g.J.Job.map _ _ c.parse_op.ensures.remembers c.args.s c.ranges.s.fits (sym c.start.ensures ∙ c.in-Some-Wanted.is ∙ ap Some c.in-Some-Wanted.field-0-is) parsed))
    c.parse_op.ensures.done

pub returns-in-Some-Wanted-clause-left : goal.returns-in-Some-Wanted-clause-left
returns-in-Some-Wanted-clause-left g c =
    on_ok_weaker c.parse_op.result
    (λ parsed left. parse_lowers g.J.Job.map _ _ c.parse_op.ensures.remembers c.args.s c.ranges.s.fits (sym c.start.ensures ∙ c.in-Some-Wanted.is ∙ ap Some c.in-Some-Wanted.field-0-is) parsed)
    c.parse_op.ensures.done

pub returns-in-Some-Parsed-clause-left : goal.returns-in-Some-Parsed-clause-left
returns-in-Some-Parsed-clause-left g c left =
    absurd (parsed_not _ (sym c.start.ensures ∙ c.in-Some-Parsed.is ∙ ap Some c.in-Some-Parsed.field-0-is) (left_wanted _ _ _ left))
