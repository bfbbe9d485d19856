use Rattle.std.proofs.Common.{◌≡◌, ◌+◌, ◌-◌, ◌*◌, ◌≤◌, get_or, None, subst, arith}
use Rattle.jump_table.specs.Inner.Steps.{IsStepAt, AreStepsBelow}
use Rattle.jump_table.proofs.Ways.{steps-none_yet, steps-all}
use Rattle.jump_table.proofs.approach.steps_before.Goals as goal

pub loop-parcels-init : goal.loop-parcels-init
loop-parcels-init c = steps-none_yet c.args.image.now c.args.start c.args.jump

pub returns-then-is_none-2 : goal.returns-then-is_none-2
returns-then-is_none-2 c =
    let n = c.loop-parcels.parcels - 1 in
    let same : c.loop-parcels.parcels ≡ n + 1 = omega arith in
    let are = subst (λ m. AreStepsBelow c.args.image.now c.args.start c.args.jump m c.loop-parcels.steps) same c.loop-parcels.invariant in
    let first : get_or c.loop-parcels.steps n None ≡ None = grind arith in
    let none : c.step_at-step.result ≡ None = grind arith in
    let here = subst (IsStepAt c.args.image.now c.args.start c.args.jump c.loop-parcels.parcels) none c.step_at-step.ensures in
    let second = subst (λ m. IsStepAt c.args.image.now c.args.start c.args.jump m None) same here in
    let inside : c.args.start + 2 * (n + 1) ≤ c.args.jump = omega arith in
    steps-all c.args.image.now c.args.start c.args.jump c.loop-parcels.steps n are (omega arith) (omega arith) inside first second
