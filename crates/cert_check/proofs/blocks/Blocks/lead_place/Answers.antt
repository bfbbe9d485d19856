use Rattle.std.proofs.Common.{List, length, get_or, sym, ap, ◌∙◌, arith}
use Rattle.cert_text.specs.declared.lines.LeadLine.{LeadLine}
use Rattle.cert_ends.proofs.Placed.{no_lead}
use Rattle.cert_check.specs.Inner.Blocks.{owner_by}
use Rattle.cert_check.proofs.Entered.{lead_elsewhere, lead_here, no_lead_here}
use Rattle.cert_check.proofs.blocks.Blocks.lead_place.Goals as goal

pub returns-in_default : goal.returns-in_default
returns-in_default g c =
    no_lead_here (g.C.Chains.map c.args.code.now) c.args.part.now.leads c.requires.leads (owner_by (g.C.Numbered.number c.args.code.now) c.args.self.now.owners.places.items)
    c.requires.blocks.owned c.args.a (sym c.of.ensures ∙ c.in_default.is)

pub bounds-as_slice-i : goal.bounds-as_slice-i
bounds-as_slice-i g c =
    let within = (c.requires.blocks.owned.right c.args.a c.in-Some.i (c.has.ensures.has.0 c.if-not-has.false) (sym c.of.ensures ∙ c.in-Some.is)).0 in
    omega (arith, within, ap length c.as_slice.ensures)

pub returns-then-as_slice-i : goal.returns-then-as_slice-i
returns-then-as_slice-i g c =
    lead_elsewhere (g.C.Chains.map c.args.code.now) c.args.part.now.leads c.requires.leads (owner_by (g.C.Numbered.number c.args.code.now) c.args.self.now.owners.places.items)
    c.requires.blocks.owned c.args.a c.in-Some.i no_lead (sym c.of.ensures ∙ c.in-Some.is)
    (λ e. c.if-as_slice-i.true (ap (λ (lines : List LeadLine). (get_or lines c.in-Some.i no_lead).at) c.as_slice.ensures ∙ e))

pub returns : goal.returns
returns g c =
    lead_here (g.C.Chains.map c.args.code.now) c.args.part.now.leads c.requires.leads (owner_by (g.C.Numbered.number c.args.code.now) c.args.self.now.owners.places.items)
    c.requires.blocks.owned c.args.a c.in-Some.i no_lead (c.has.ensures.has.0 c.if-not-has.false) (sym c.of.ensures ∙ c.in-Some.is)
    (sym (ap (λ (lines : List LeadLine). (get_or lines c.in-Some.i no_lead).at) c.as_slice.ensures) ∙ c.if-as_slice-i.false)
