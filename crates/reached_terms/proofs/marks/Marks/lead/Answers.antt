use Rattle.std.proofs.lemmas.Result.{on_ok_weaker}
use Rattle.reached_terms.proofs.Leading.{arrived_number, lead-step}
use Rattle.reached_terms.proofs.marks.Marks.lead.Goals as goal

pub returns-clause-step : goal.returns-clause-step
returns-clause-step g c =
    let map = g.C.Chains.map c.args.code.now in
    let number = g.C.Numbered.number c.args.code.now in
    let mid = c.arrive.new.self in
    let first = c.in_ok-to.ensures.step in
    let at = c.in_ok-to.ensures.there in
    on_ok_weaker c.follow.result
    (λ step. lead-step map number c.args.self.now mid c.follow.new.self c.args.n c.args.b c.in_ok-to.to first.kept first at
    (step map number first.kept c.requires.number (arrived_number map number mid c.args.b c.in_ok-to.to at)))
    c.follow.ensures.step
