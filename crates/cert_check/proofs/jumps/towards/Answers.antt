use Rattle.std.proofs.Common.{sym, subst, ◌∙◌, arith}
use mathlib.Core.Logic.{inl, inr}
use Rattle.cert_check.specs.Inner.Jumps.{LeadsAlong}
use Rattle.cert_check.proofs.Jumping.{along_cases, along_order, jump_at, same_some}
use Rattle.cert_check.proofs.jumps.towards.Goals as goal

pub returns-then-jump-to : goal.returns-then-jump-to
returns-then-jump-to c =
    let jump = jump_at c.args.runs.now c.args.jumps.now c.requires.forest 0 c.args.at _ c.requires.jumps (omega arith) (omega (arith, c.requires.below, c.requires.to)) in
    (c.if-at-jump.true, jump.within, jump.along, λ h. along_order c.requires.forest jump.along h c.if-jump-to.true)

pub returns-in-Some : goal.returns-in-Some
returns-in-Some c =
    let on = c.requires.forest.onward c.args.at c.in-Some.next c.in-Some.is in (
      on.0,
      on.1,
      LeadsAlong.on c.in-Some.is LeadsAlong.here,
      λ h. elim (along_cases h) [
        | inl same ↦ absurd (omega (arith, same, c.requires.below))
        | inr more ↦ subst (λ x. LeadsAlong c.args.runs.now x c.args.to) (same_some more.0 c.in-Some.next (sym more.1 ∙ c.in-Some.is)) more.2
      ],
    )
