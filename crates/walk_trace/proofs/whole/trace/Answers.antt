use Rattle.std.proofs.Common.{◌≡◌, ◌+◌, ◌-◌, ◌∙◌, suc, Some, sym, ap, arith}
use Rattle.walk_trace.specs.Inner.{walk_of, walk_if}
use Rattle.walk_trace.proofs.Steps.{step_told, last_told}
use Rattle.walk_trace.proofs.whole.trace.Goals as goal

pub loop-preserved : goal.loop-preserved
loop-preserved c =
    let one : c.args.steps - c.loop.counter ≡ suc (c.args.steps - (c.loop.counter + 1)) = omega arith in
    let goes = sym (ap (λ b. walk_if b c.step.new.self) c.if-not-branch.false) ∙ c.in_ok-step.ensures.walk in
    record {
      told = step_told c.args.image.now c.args.graph.now.blocks c.args.graph.now.edges (walk_of c.loop.walker) _ _ one c.loop.text.items c.step.new.text.items c.in_ok-step.ensures.text (Some (walk_of c.step.new.self)) goes ∙ c.loop.invariant.told;
      decoded = c.step.ensures.decoded;
    }

pub returns-then-not-branch : goal.returns-then-not-branch
returns-then-not-branch c =
    let one : c.args.steps - c.loop.counter ≡ suc (c.args.steps - (c.loop.counter + 1)) = omega arith in
    let ends = sym (ap (λ b. walk_if b c.step.new.self) c.if-not-branch.true) ∙ c.in_ok-step.ensures.walk in
    last_told c.args.image.now c.args.graph.now.blocks c.args.graph.now.edges (walk_of c.loop.walker) _ _ one c.loop.text.items c.step.new.text.items c.in_ok-step.ensures.text ends ∙ c.loop.invariant.told
