use Rattle.reached_terms.proofs.Closing.{settled-grow, settled-seeded}
use Rattle.reached_terms.proofs.Growth.{visited-grow}
use Rattle.reached_terms.proofs.closure.settle.Goals as goal

pub returns-clause-grow : goal.returns-clause-grow
returns-clause-grow g c =
    settled-grow (g.C.Chains.map c.args.code.now) (g.C.Numbered.number c.args.code.now) c.args.k c.args.marks.now c.visit.new.self c.notify_all.new.marks c.in_ok-visit.ensures.step
    c.in_ok-notify_all.ensures.kept c.in_ok-notify_all.ensures.grow c.in_ok-notify_all.ensures.right c.in_ok-notify_all.ensures.told c.in_ok-notify_all.ensures.none

pub returns-clause-visited : goal.returns-clause-visited
returns-clause-visited g c =
    visited-grow (g.C.Chains.map c.args.code.now) (g.C.Numbered.number c.args.code.now) c.visit.new.self c.notify_all.new.marks c.in_ok-notify_all.ensures.grow c.args.k c.in_ok-visit.ensures.visited

pub returns-clause-seeded : goal.returns-clause-seeded
returns-clause-seeded g c =
    settled-seeded (g.C.Chains.map c.args.code.now) (g.C.Numbered.number c.args.code.now) c.args.k c.args.marks.now c.visit.new.self c.notify_all.new.marks c.in_ok-visit.ensures.step
    c.in_ok-notify_all.ensures.kept c.in_ok-notify_all.ensures.grow c.in_ok-notify_all.ensures.right c.in_ok-notify_all.ensures.told c.in_ok-notify_all.ensures.none
