use Rattle.std.proofs.Common.{List, length, get_or, ltb, sym, ap, subst, arith}
use Rattle.std.specs.Prelude.{◌↔◌, IsTrue}
use Rattle.cert_text.specs.declared.lines.LeadLine.{LeadLine}
use Rattle.cert_laws.specs.Lines.{IsLeadBelow}
use Rattle.cert_ends.proofs.Placed.{below_at, no_lead}
use Rattle.cert_check.proofs.leads.is_lead_below.Goals as goal

pub bounds-as_slice-i : goal.bounds-as_slice-i
bounds-as_slice-i g c = omega (arith, c.in-Some.ensures.within, ap length c.as_slice.ensures)

pub returns-in-Some : goal.returns-in-Some
returns-in-Some g c =
    let leads = c.args.reasons.now.part.now.leads in
    subst (λ (lines : List LeadLine). IsTrue (ltb (get_or lines c.in-Some.i no_lead).rank c.args.rank) ↔ IsLeadBelow leads c.args.rank c.args.lead) (sym c.as_slice.ensures)
    (below_at leads c.requires.leads.rise c.in-Some.i c.args.lead c.args.rank no_lead c.in-Some.ensures)
