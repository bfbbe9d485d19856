use Rattle.std.proofs.Common.{◌≡◌, ◌+◌, ◌%◌, ◌^◌, sym, ap, ◌∙◌}
use Rattle.rv_flow.specs.declared.placed.Placed.{Placed}
use Rattle.walk_trace.specs.Inner.{walk_of}
use Rattle.walk_trace.specs.Trace.{next_of}
use Rattle.walk_trace.proofs.Steps.{goes_told, trap_told, placed_is}
use Rattle.walk_trace.proofs.walker.Walker.step.Goals as goal

pub returns-in-Next-clause-text : goal.returns-in-Next-clause-text
returns-in-Next-clause-text c =
    let next = ap (λ n. (c.args.self.now.cpu.pc + n) % 2 ^ 64) (c.from.ensures ∙ ap (λ (p : Placed). p.length) (placed_is _ _ _ c.in-Some.ensures.answer)) in
    rw (goes_told c.args.image.now c.args.graph.now.blocks c.args.graph.now.edges (walk_of c.args.self.now) _ _ _ _ c.in-Next.ensures.answer next c.in-Next.ensures.state c.in-Next.ensures.memory) c.follow.ensures.text

pub returns-in-Next-clause-walk : goal.returns-in-Next-clause-walk
returns-in-Next-clause-walk c =
    let next = ap (λ n. (c.args.self.now.cpu.pc + n) % 2 ^ 64) (c.from.ensures ∙ ap (λ (p : Placed). p.length) (placed_is _ _ _ c.in-Some.ensures.answer)) in
    rw (goes_told c.args.image.now c.args.graph.now.blocks c.args.graph.now.edges (walk_of c.args.self.now) _ _ _ _ c.in-Next.ensures.answer next c.in-Next.ensures.state c.in-Next.ensures.memory) c.follow.ensures.walk

pub returns-in_ok-push_trap-in-Trap-clause-text : goal.returns-in_ok-push_trap-in-Trap-clause-text
returns-in_ok-push_trap-in-Trap-clause-text c =
    rw (trap_told c.args.image.now c.args.graph.now.blocks c.args.graph.now.edges (walk_of c.args.self.now) _ _ c.in-Trap.ensures.answer) c.in_ok-push_trap-in-Trap.ensures

pub returns-in_ok-push_trap-in-Trap-clause-walk : goal.returns-in_ok-push_trap-in-Trap-clause-walk
returns-in_ok-push_trap-in-Trap-clause-walk c =
    rw (trap_told c.args.image.now c.args.graph.now.blocks c.args.graph.now.edges (walk_of c.args.self.now) _ _ c.in-Trap.ensures.answer)
