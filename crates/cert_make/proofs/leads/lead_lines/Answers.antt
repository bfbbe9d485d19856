use Rattle.std.proofs.Common.{ℕ, ◌↔◌, List, map, ◌≡◌, ◌∙◌, ap, sym, subst}
use Rattle.cert_text.specs.declared.lines.LeadLine.{LeadLine}
use Rattle.cert_text.specs.declared.lines.ReturnLine.{ReturnLine}
use Rattle.cert_laws.specs.Lines.{IsReturn}
use Rattle.cert_make.specs.Canonical.{ReturnsReached}
use Rattle.cert_make.proofs.CanonicalLeads.{all_listed, start_rises, start_stands, returns_stand, returns_tell, canonical_leads}
use Rattle.cert_make.proofs.ExactLeads.{lead_at_of}
use Rattle.cert_make.proofs.Linked.{links_same}
use Rattle.cert_make.proofs.leads.lead_lines.Goals as goal

pub new-requires-clause-stand : goal.new-requires-clause-stand
new-requires-clause-stand g c κs within = returns_stand (g.C.Chains.map c.args.code.now) c.args.seeds.now c.args.returns.now c.requires.returns

pub of-requires-clause-lines : goal.of-requires-clause-lines
of-requires-clause-lines g c κs within = ap (λ (ls : List LeadLine). map lead_at_of ls) c.as_slice.ensures.value ∙ c.in_ok-plain.ensures

pub of-requires-clause-tell : goal.of-requires-clause-tell
of-requires-clause-tell g c κs within =
    returns_tell (g.C.Chains.map c.args.code.now) c.args.seeds.now c.args.leaders.now c.in_ok-returns.returns.lines.now c.requires.leaders
    (subst (λ (ls : List ReturnLine). (k : ℕ) → IsReturn ls k ↔ ReturnsReached (g.C.Chains.map c.args.code.now) c.args.seeds.now k) (sym c.in_ok-returns.ensures.lines) c.requires.returns)

pub settled_leads-requires-clause-leads : goal.settled_leads-requires-clause-leads
settled_leads-requires-clause-leads g c κs within =
    let at : map lead_at_of c.in_ok-start.start.items ≡ c.args.leaders.now = c.in_ok-start.ensures.same ∙ ap (λ (ls : List LeadLine). map lead_at_of ls) c.as_slice-2.ensures.value ∙ c.in_ok-plain.ensures in
    record {
      rise = start_rises c.args.leaders.now c.in_ok-start.start.items at c.requires.leaders_rise;
      known = start_stands (g.C.Chains.map c.args.code.now) c.args.leaders.now c.in_ok-start.start.items at c.requires.known;
    }

pub settled_leads-requires-clause-leaders : goal.settled_leads-requires-clause-leaders
settled_leads-requires-clause-leaders g c κs within =
    all_listed (g.C.Chains.map c.args.code.now) c.args.seeds.now c.args.leaders.now c.in_ok-start.start.items
    (c.in_ok-start.ensures.same ∙ ap (λ (ls : List LeadLine). map lead_at_of ls) c.as_slice-2.ensures.value ∙ c.in_ok-plain.ensures) c.requires.leaders

pub settled_leads-requires-clause-links : goal.settled_leads-requires-clause-links
settled_leads-requires-clause-links g c κs within =
    links_same (g.C.Chains.map c.args.code.now) c.as_slice.result.now c.in_ok-start.start.items c.in_ok-links.links
    (c.in_ok-start.ensures.same ∙ ap (λ (ls : List LeadLine). map lead_at_of ls) (c.as_slice-2.ensures.value ∙ sym c.as_slice.ensures.value)) c.in_ok-links.ensures

pub returns : goal.returns
returns g c =
    canonical_leads (g.C.Chains.map c.args.code.now) c.args.seeds.now c.args.leaders.now c.in_ok-start.start.items c.in_ok-lines.lines.items
    (c.in_ok-start.ensures.same ∙ ap (λ (ls : List LeadLine). map lead_at_of ls) c.as_slice-2.ensures.value ∙ c.in_ok-plain.ensures) c.requires.leaders_rise c.requires.leaders c.in_ok-lines.ensures
