use Rattle.std.proofs.Common.{◌+◌, sym, subst, arith}
use Rattle.steal_pool.specs.declared.deques.Tried.TheVariants as tried
use Rattle.steal_pool.proofs.Rounds.{SoFar, Brings, begins, after_empty, after_beaten, each_risen}
use Rattle.steal_pool.proofs.deques.first_of.Goals as goal
use Rattle.steal_pool.proofs.deques.first_of.Goals.{in-Beaten, in-Empty}

pub loop-step-init : goal.loop-step-init
loop-step-init g c = begins _ _ _ _ _ _ _ _

pub loop-step-preserved : goal.loop-step-preserved
loop-step-preserved g c =
    let E = g.E.Deques in
    let mid = c.loop-step.ends in
    let now = c.try_end.new.self in
    let step = c.loop-step.step in
    elim c.match-try_end.branch [
      | in-Beaten w ↦
          let e = w.in-Beaten.ensures in
          let b : Brings E.try_made E.size E.empties E.beaten E.got c.args.own c.args.count c.args.ends.now c.next_deque.result mid tried.Beaten now =
          record { made = e.made; sized = e.size; gets = e.got; cause = e.cause; empties_last = e.empties; beaten_last = e.beaten } in
          subst (λ b. SoFar E.try_made E.size E.empties E.beaten E.got c.args.own c.args.count c.args.ends.now now (step + 1) b) (sym w.beaten-is)
          (after_beaten E.try_made E.size E.empties E.beaten E.got _ _ _ (omega (arith, c.requires.own)) mid now step c.loop-step.beaten c.loop-step.invariant
          (subst (λ i. Brings E.try_made E.size E.empties E.beaten E.got c.args.own c.args.count c.args.ends.now i mid tried.Beaten now) c.next_deque.ensures b))
      | in-Empty w ↦
          let e = w.in-Empty.ensures in
          let b : Brings E.try_made E.size E.empties E.beaten E.got c.args.own c.args.count c.args.ends.now c.next_deque.result mid tried.Empty now =
          record { made = e.made; sized = e.size; gets = e.got; cause = e.cause; empties_last = e.empties; beaten_last = e.beaten } in
          subst (λ b. SoFar E.try_made E.size E.empties E.beaten E.got c.args.own c.args.count c.args.ends.now now (step + 1) b) (sym w.beaten-is)
          (after_empty E.try_made E.size E.empties E.beaten E.got _ _ _ mid now step c.loop-step.beaten c.loop-step.invariant
          (subst (λ i. Brings E.try_made E.size E.empties E.beaten E.got c.args.own c.args.count c.args.ends.now i mid tried.Empty now) c.next_deque.ensures b))
    ]

pub returns-else-beaten-clause-cause : goal.returns-else-beaten-clause-cause
returns-else-beaten-clause-cause g c =
    let E = g.E.Deques in
    let so = subst (λ b. SoFar E.try_made E.size E.empties E.beaten E.got c.args.own c.args.count c.args.ends.now c.loop-step.ends c.loop-step.step b) c.if-beaten.false c.loop-step.invariant in
    each_risen E.try_made E.size E.empties E.beaten E.got _ _ _ c.requires.own c.loop-step.ends (λ k lt. so.cause k (omega (arith, c.loop-step-test.false, lt)))
