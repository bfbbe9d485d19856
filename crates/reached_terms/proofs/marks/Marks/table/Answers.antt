use Rattle.std.proofs.Common.{◌∙◌, arith}
use Rattle.reached_terms.proofs.Leading.{followed-none, followed-more, followed-all}
use Rattle.reached_terms.proofs.marks.Marks.table.Goals as goal

pub loop-b-init : goal.loop-b-init
loop-b-init g c = followed-none (g.C.Chains.map c.args.code.now) (g.C.Numbered.number c.args.code.now) c.args.n c.args.self.now _ c.requires.kept (omega arith)

pub lead-requires-clause-kept : goal.lead-requires-clause-kept
lead-requires-clause-kept g c κs within = c.loop-b.invariant.step.kept

pub loop-b-preserved : goal.loop-b-preserved
loop-b-preserved g c =
    followed-more (g.C.Chains.map c.args.code.now) (g.C.Numbered.number c.args.code.now) c.args.n _ c.loop-b.b-index c.args.self.now c.loop-b.self c.lead.new.self
    c.loop-b-test.true c.loop-b.invariant c.in_ok-lead.ensures.step c.in_ok-lead.ensures.led

pub returns-clause-step : goal.returns-clause-step
returns-clause-step g c =
    (followed-all (g.C.Chains.map c.args.code.now) (g.C.Numbered.number c.args.code.now) c.args.n c.deref-b-items.result.now _ c.loop-b.b-index c.args.self.now c.loop-b.self (omega arith) (c.deref-b-items.ensures.value ∙ c.in_ok-targets.ensures.targets) c.loop-b.invariant).step

pub returns-clause-led : goal.returns-clause-led
returns-clause-led g c =
    (followed-all (g.C.Chains.map c.args.code.now) (g.C.Numbered.number c.args.code.now) c.args.n c.deref-b-items.result.now _ c.loop-b.b-index c.args.self.now c.loop-b.self (omega arith) (c.deref-b-items.ensures.value ∙ c.in_ok-targets.ensures.targets) c.loop-b.invariant).led
