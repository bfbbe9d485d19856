use Rattle.std.proofs.Common.{◌≡◌, ◌+◌, ◌-◌, ◌*◌, ◌≤◌, suc, sym, ◌∙◌, arith}
use Rattle.jump_table.specs.Inner.Steps.{IsStep}
use Rattle.jump_table.proofs.Runs.{at_jump, reaches-here, reaches-nowhere, reaches-end, reaches-on}
use Rattle.jump_table.proofs.Ways.{steps-step, steps-none}
use Rattle.jump_table.proofs.run.reaches.Goals as goal

pub returns-then-left-eq0 : goal.returns-then-left-eq0
returns-then-left-eq0 c =
    let way = c.args.way.now in
    let here : way.jump - 2 * c.loop.left ≡ way.jump = omega arith in
    sym (c.loop.invariant.same ∙ reaches-here way.image.now way.start way.jump (16 - c.loop.counter) (way.jump - 2 * c.loop.left) here)

pub returns-in_default : goal.returns-in_default
returns-in_default c =
    let way = c.args.way.now in
    let nowhere = steps-none way.image.now way.start way.jump way.steps way.lead c.loop.left (omega arith) (omega (arith, c.loop.invariant.nearer)) (omega (arith, c.loop.invariant.nearer)) c.in_default.is in
    sym (c.loop.invariant.same ∙ reaches-nowhere way.image.now way.start way.jump (16 - c.loop.counter) (way.jump - 2 * c.loop.left) (nowhere (16 - c.loop.counter)))

pub loop-preserved : goal.loop-preserved
loop-preserved c =
    let way = c.args.way.now in
    let more : 16 - c.loop.counter ≡ suc (16 - (c.loop.counter + 1)) = omega arith in
    let step = c.in-Some.step in
    let is : IsStep way.image.now way.start way.jump c.loop.left step =
    steps-step way.image.now way.start way.jump way.steps way.lead c.loop.left step (omega arith) (omega (arith, c.loop.invariant.nearer)) (omega (arith, c.loop.invariant.nearer)) c.in-Some.is in
    record {
      nearer = omega (arith, is.nearer, c.loop.invariant.nearer);
      same = c.loop.invariant.same
          ∙ reaches-on way.image.now way.start way.jump c.loop.left step (omega arith) (omega (arith, c.loop.invariant.nearer)) is (16 - c.loop.counter) (16 - (c.loop.counter + 1)) more;
    }

pub returns : goal.returns
returns c =
    let way = c.args.way.now in
    let none : 16 - c.loop.counter ≡ 0 = omega arith in
    let within : 2 * c.loop.left ≤ way.jump = omega (arith, c.loop.invariant.nearer) in
    sym (c.loop.invariant.same ∙ reaches-end way.image.now way.start way.jump (16 - c.loop.counter) (way.jump - 2 * c.loop.left) none ∙ at_jump way.jump c.loop.left within)
