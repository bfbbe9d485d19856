use Rattle.std.proofs.Common.{◌≤◌, List, length, arith, subst}
use Rattle.std.proofs.lemmas.Result.{IfOk-weaker}
use Rattle.cert_text.specs.declared.lines.LeadLine.{LeadLine}
use Rattle.cert_make.specs.Inner.Settled.{AreLeadsSettledBy, LeadsHaveSameRanks}
use Rattle.cert_make.proofs.Linked.{links_same}
use Rattle.cert_make.proofs.LeadRows.{at_rest, first_at, same_length}
use Rattle.cert_make.proofs.LeadSteps.{first_leads_stepped, leads_ended, leads_low_enough, next_leads_stepped}
use Rattle.cert_make.proofs.leads.settled_leads.Goals as goal

pub loop-step-init : goal.loop-step-init
loop-step-init g c =
    let code = g.C.Chains.map c.args.code.now in
    first_leads_stepped code c.args.seeds.now c.args.start.items (first_at code c.args.start.items c.requires.leads.rise c.requires.leads.known) c.requires.ranks c.requires.leaders

pub lead_step-requires-clause-leads : goal.lead_step-requires-clause-leads
lead_step-requires-clause-leads g c κs within = rw c.as_slice.ensures.value (record { rise = c.loop-step.invariant.at.rising; known = c.loop-step.invariant.at.stand })

pub lead_step-requires-clause-leaders : goal.lead_step-requires-clause-leaders
lead_step-requires-clause-leaders g c κs within = rw c.as_slice.ensures.value c.loop-step.invariant.all

pub lead_step-requires-clause-ranks : goal.lead_step-requires-clause-ranks
lead_step-requires-clause-ranks g c κs within =
    rw c.as_slice.ensures.value (leads_low_enough c.loop-step.lines.items c.loop-step._step (omega (arith, c.loop-step-test.true, c.len-step-end.ensures, c.args.start.small)) c.loop-step.invariant.low)

pub lead_step-requires-clause-links : goal.lead_step-requires-clause-links
lead_step-requires-clause-links g c κs within =
    rw c.as_slice.ensures.value (links_same (g.C.Chains.map c.args.code.now) c.args.start.items c.loop-step.lines.items c.args.links.now c.loop-step.invariant.at.same c.requires.links)

pub loop-step-preserved : goal.loop-step-preserved
loop-step-preserved g c =
    let code = g.C.Chains.map c.args.code.now in
    next_leads_stepped code c.args.seeds.now c.args.start.items c.loop-step.lines.items c.in_ok-next.next.items c.loop-step._step c.loop-step.invariant
    (subst (λ (ls : List LeadLine). AreLeadsSettledBy code c.args.seeds.now ls ls c.in_ok-next.next.items) c.as_slice.ensures.value c.in_ok-next.ensures)

pub returns-then-leads_have_same_ranks : goal.returns-then-leads_have_same_ranks
returns-then-leads_have_same_ranks g c =
    let code = g.C.Chains.map c.args.code.now in
    let lines = c.loop-step.lines.items in
    let next = c.in_ok-next.next.items in
    at_rest code c.args.seeds.now c.args.start.items lines next c.loop-step.invariant.at
    (subst (λ (ls : List LeadLine). AreLeadsSettledBy code c.args.seeds.now ls ls next) c.as_slice.ensures.value c.in_ok-next.ensures)
    (subst (λ (ls : List LeadLine). LeadsHaveSameRanks next ls) c.as_slice-in-loop-step-2.ensures.value
    (subst (λ (ls : List LeadLine). LeadsHaveSameRanks ls c.as_slice-in-loop-step-2.result.now) c.as_slice-in-loop-step.ensures.value (c.leads_have_same_ranks.ensures c.if-leads_have_same_ranks.true)))

pub lead_step-requires-2-clause-leads : goal.lead_step-requires-2-clause-leads
lead_step-requires-2-clause-leads g c κs within = rw c.as_slice-2.ensures.value (record { rise = c.loop-step.invariant.at.rising; known = c.loop-step.invariant.at.stand })

pub lead_step-requires-2-clause-leaders : goal.lead_step-requires-2-clause-leaders
lead_step-requires-2-clause-leaders g c κs within = rw c.as_slice-2.ensures.value c.loop-step.invariant.all

pub lead_step-requires-2-clause-ranks : goal.lead_step-requires-2-clause-ranks
lead_step-requires-2-clause-ranks g c κs within =
    rw c.as_slice-2.ensures.value (leads_low_enough c.loop-step.lines.items c.loop-step._step (omega (arith, c.loop-step.auto._step-end, c.len-step-end.ensures, c.args.start.small)) c.loop-step.invariant.low)

pub lead_step-requires-2-clause-links : goal.lead_step-requires-2-clause-links
lead_step-requires-2-clause-links g c κs within =
    rw c.as_slice-2.ensures.value (links_same (g.C.Chains.map c.args.code.now) c.args.start.items c.loop-step.lines.items c.args.links.now c.loop-step.invariant.at.same c.requires.links)

pub returns : goal.returns
returns g c =
    let code = g.C.Chains.map c.args.code.now in
    let start = c.args.start.items in
    let lines = c.loop-step.lines.items in
    let many : length lines ≤ c.loop-step._step = omega (arith, c.loop-step-test.false, c.len-step-end.ensures, same_length start lines c.loop-step.invariant.at.same) in
    IfOk-weaker c.lead_step-2.result _ _
    (λ v step. leads_ended code c.args.seeds.now start lines v.items c.loop-step._step c.loop-step.invariant (subst (λ (ls : List LeadLine). AreLeadsSettledBy code c.args.seeds.now ls ls v.items) c.as_slice-2.ensures.value step) many)
    c.lead_step-2.ensures
