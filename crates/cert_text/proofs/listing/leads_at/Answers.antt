use Rattle.std.proofs.Common.{◌≡◌, ◌<◌, ℕ, List, map, length, None, sym, subst, arith}
use Rattle.std.specs.Prelude.{codes}
use Rattle.std.proofs.lemmas.Bool.{iff_false}
use Rattle.cert_text.specs.declared.lines.LeadLine.{LeadLine}
use Rattle.cert_text.specs.Line.{lead_line}
use Rattle.cert_text.specs.Text.{LeadFits}
use Rattle.cert_text.specs.Reading.{after, lead_at}
use Rattle.cert_text.specs.Sections.{EndsBelow, IsSection}
use Rattle.cert_text.proofs.Sections.{ends_here, next_line, one_more, no_such_line, shorter}
use Rattle.cert_text.proofs.Parts.{lead_form}
use Rattle.cert_text.proofs.listing.leads_at.Goals as goal

abbrev address_of : LeadLine → ℕ
address_of l = l.at

abbrev word : List ℕ
word = codes "lead"

long : (l : LeadLine) → 0 < length (lead_line l)
long l = omega arith

pub returns-in_default-lead_at-clause-only : goal.returns-in_default-lead_at-clause-only
returns-in_default-lead_at-clause-only c =
    λ lines rest of over.
    let next = next_line word lead_line address_of LeadFits lead_at lead_form c.args.bytes.now c.loop-fields.lines.items lines c.loop-fields.rest.now rest c.in-Some.fields.now c.loop-fields.invariant (sym c.in-Some.ensures) of over in
    let bad : lead_at c.in-Some.fields.now ≡ None = sym c.in_default-lead_at.ensures in
    absurd (cc (bad, next.4))

pub returns-then-not-leads_end_below-clause-only : goal.returns-then-not-leads_end_below-clause-only
returns-then-not-leads_end_below-clause-only c =
    λ lines rest of over.
    let below = no_such_line word lead_line address_of LeadFits lead_at lead_form c.args.bytes.now c.loop-fields.lines.items lines c.loop-fields.rest.now rest c.in-Some.fields.now c.in-Some-lead_at.line c.in-Some-lead_at.others.now c.loop-fields.invariant (sym c.in-Some.ensures) (sym c.in-Some-lead_at.ensures) of over in
    let here : EndsBelow (map address_of c.as_slice.result.now) c.in-Some-lead_at.line.at = subst (λ (xs : List LeadLine). EndsBelow (map address_of xs) c.in-Some-lead_at.line.at) (sym c.as_slice.ensures.value) below in
    absurd (iff_false c.leads_end_below.ensures c.if-not-leads_end_below.true here)

pub loop-fields-smaller : goal.loop-fields-smaller
loop-fields-smaller c =
    shorter word lead_line LeadFits lead_at lead_form c.loop-fields.rest.now c.in-Some.fields.now c.in-Some-lead_at.line c.in-Some-lead_at.others.now (sym c.in-Some.ensures) (sym c.in-Some-lead_at.ensures) (long c.in-Some-lead_at.line)

pub loop-fields-preserved : goal.loop-fields-preserved
loop-fields-preserved c =
    let there : EndsBelow (map address_of c.as_slice.result.now) c.in-Some-lead_at.line.at = c.leads_end_below.ensures.0 c.if-not-leads_end_below.false in
    let below : EndsBelow (map address_of c.loop-fields.lines.items) c.in-Some-lead_at.line.at = subst (λ (xs : List LeadLine). EndsBelow (map address_of xs) c.in-Some-lead_at.line.at) c.as_slice.ensures.value there in
    let more = one_more word lead_line address_of LeadFits lead_at lead_form c.args.bytes.now c.loop-fields.lines.items c.loop-fields.rest.now c.in-Some.fields.now c.in-Some-lead_at.line c.in-Some-lead_at.others.now c.loop-fields.invariant (sym c.in-Some.ensures) (sym c.in-Some-lead_at.ensures) below in
    subst (λ (xs : List LeadLine). IsSection lead_line address_of LeadFits c.args.bytes.now xs c.in-Some-lead_at.others.now) (sym c.in_ok-push.ensures.items) more

pub returns-clause-only : goal.returns-clause-only
returns-clause-only c =
    λ lines rest of over.
    let stop : after word c.loop-fields.rest.now ≡ None = sym c.in_default.ensures in
    ends_here word lead_line address_of LeadFits lead_at lead_form c.args.bytes.now c.loop-fields.lines.items lines c.loop-fields.rest.now rest c.loop-fields.invariant stop of over
