use Rattle.std.proofs.Common.{◌≡◌, ◌*◌, ◌≤◌, ◌-◌, ◌/◌, get_or, None, sym, ◌∙◌, arith}
use Rattle.rv_flow.specs.declared.placed.Placed.{Placed}
use Rattle.jump_table.specs.Inner.Straight.{IsLength}
use Rattle.jump_table.proofs.Targets.{there}
use Rattle.jump_table.proofs.Ways.{step-stops, step-past, step-lost, step-here}
use Rattle.jump_table.proofs.approach.step_at.Goals as goal

pub returns-in_err-placed : goal.returns-in_err-placed
returns-in_err-placed c =
    let within : 2 * c.args.parcels ≤ c.args.jump = omega arith in
    let none = sym c.straight_at.ensures.value ∙ c.in_err-placed.was in
    rw c.from_residual.ensures (step-stops c.args.image.now c.args.start c.args.jump c.args.parcels c.requires.some within none)

pub returns-in_err-next : goal.returns-in_err-next
returns-in_err-next c =
    let within : 2 * c.args.parcels ≤ c.args.jump = omega arith in
    let placed = c.in_ok-placed.placed in
    let is = sym c.straight_at.ensures.value ∙ c.in_ok-placed.was in
    let size : IsLength placed.length = there _ placed (λ (p : Placed). IsLength p.length) c.in_ok-placed.was c.straight_at.ensures.length in
    rw c.from_residual-in_err-next.ensures
    (step-past c.args.image.now c.args.start c.args.jump c.args.parcels c.requires.some within placed size is
    (λ inside. c.in_err-next.ensures (omega arith)))

pub returns-then-is_none : goal.returns-then-is_none
returns-then-is_none c =
    let within : 2 * c.args.parcels ≤ c.args.jump = omega arith in
    let placed = c.in_ok-placed.placed in
    let is = sym c.straight_at.ensures.value ∙ c.in_ok-placed.was in
    let size : IsLength placed.length = there _ placed (λ (p : Placed). IsLength p.length) c.in_ok-placed.was c.straight_at.ensures.length in
    let half : placed.length / 2 ≤ c.args.parcels = omega (arith, c.in_ok-next.ensures.0, c.from.ensures) in
    let at : c.in_ok-next.next ≡ c.args.parcels - placed.length / 2 = omega (arith, c.in_ok-next.ensures.1, c.from.ensures) in
    let none : get_or c.args.steps.now c.in_ok-next.next None ≡ None = grind arith in
    step-lost c.args.image.now c.args.start c.args.jump c.args.parcels c.requires.some within placed size is c.args.steps.now c.requires.nearer c.requires.inside
    c.in_ok-next.next half at c.if-next-gt0.true none

pub returns : goal.returns
returns c =
    let within : 2 * c.args.parcels ≤ c.args.jump = omega arith in
    let placed = c.in_ok-placed.placed in
    let is = sym c.straight_at.ensures.value ∙ c.in_ok-placed.was in
    let size : IsLength placed.length = there _ placed (λ (p : Placed). IsLength p.length) c.in_ok-placed.was c.straight_at.ensures.length in
    let half : placed.length / 2 ≤ c.args.parcels = omega (arith, c.in_ok-next.ensures.0, c.from.ensures) in
    let at : c.in_ok-next.next ≡ c.args.parcels - placed.length / 2 = omega (arith, c.in_ok-next.ensures.1, c.from.ensures) in
    step-here c.args.image.now c.args.start c.args.jump c.args.parcels c.requires.some within placed size is c.in_ok-next.next half at
