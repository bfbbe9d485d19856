use Rattle.std.proofs.Common.{◌∙◌, List, length, get_or, refl, sym, ap, arith}
use Rattle.cert_ends.proofs.ListedEnds.{terminator_stands}
use Rattle.cert_text.specs.declared.lines.LeadLine.{LeadLine}
use Rattle.cert_ends.proofs.Placed.{no_lead}
use Rattle.cert_check.proofs.Each.{false_true}
use Rattle.cert_check.proofs.Reasoned.{ends_owned, from_edges}
use Rattle.cert_check.proofs.leads.comes_from.Goals as goal

pub bounds-leads-i : goal.bounds-leads-i
bounds-leads-i g c =
    let map = g.C.Chains.map c.args.code.now in
    let known = terminator_stands map c.term.result c.term.ensures.term.ends in
    let right = c.requires.blocks.owned.right c.term.result c.in-Some.i known (sym c.in-Some.ensures) in
    omega (arith, right.0, ap length c.as_slice-leads.ensures)

pub returns-in-Some : goal.returns-in-Some
returns-in-Some g c =
    let map = g.C.Chains.map c.args.code.now in
    let known = terminator_stands map c.term.result c.term.ensures.term.ends in
    from_edges map (g.C.Numbered.number c.args.code.now) c.args.reasons.now c.requires c.args.rank c.args.lead c.args.a c.term.result
    (c.if-not-is_lead_below.ensures.0 refl)
    c.term.ensures.term c.has_edge.result c.in-Some.i (get_or c.as_slice-leads.result.now c.in-Some.i no_lead).at known (sym c.in-Some.ensures)
    (λ start place. ap (λ (leads : List LeadLine). (get_or leads c.in-Some.i no_lead).at) c.as_slice-leads.ensures ∙ place.address no_lead)
    c.has_edge.ensures

pub returns-in-None : goal.returns-in-None
returns-in-None g c = (
  λ e. false_true e,
  λ h. absurd (ends_owned (g.C.Chains.map c.args.code.now) (g.C.Numbered.number c.args.code.now) c.args.reasons.now c.requires c.args.rank c.args.lead c.args.a c.term.result h.lower c.term.ensures.term (sym c.in-None.ensures)),
)
