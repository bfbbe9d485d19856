-- Lines by their places, and by their addresses.
use Rattle.std.proofs.Common.{◌≡◌, ℕ, ◌<◌, List, length, get_or, ltb, sym, ap, ◌∙◌, subst, inl, inr, arith}
use Rattle.std.specs.Prelude.{◌↔◌, Contains, IsSome, IsTrue}
use Rattle.std.proofs.lemmas.Bool.{cases_eq, cases_lt, lt-ltb, ltb-true}
use Rattle.std.proofs.lemmas.List.{get_or_default}
use Rattle.std.proofs.lemmas.List.Elements.{All-contains}
use Rattle.cfg_model.specs.Program.Instructions.{InstructionMap}
use Rattle.cert_text.specs.declared.lines.ReturnLine.{ReturnLine}
use Rattle.cert_text.specs.declared.lines.ReturnWhy.TheVariants.{Itself}
use Rattle.cert_text.specs.declared.lines.LeadLine.{LeadLine}
use Rattle.cert_text.specs.declared.lines.LeadWhy.TheVariants.{Seed}
use Rattle.cert_text.specs.declared.certificate.Part.{Part}
use Rattle.cert_text.specs.Text.{PartRises}
use Rattle.cert_laws.specs.Lines.{IsLead, IsLeadBelow, IsReturnBelow}
use Rattle.cert_ends.specs.Places.{AreLeads, IsPlace, LeadsRise, ReturnsRise}
use Rattle.cert_ends.proofs.Adjacent.{rise_on, rise_next}
use Rattle.outline_funcs.proofs.Search.{one_by_key}

-- any line, for reads of a list

abbrev pub no_lead : LeadLine
no_lead = record { at = 0; rank = 0; why = Seed }

abbrev pub no_return : ReturnLine
no_return = record { at = 0; rank = 0; why = Itself }

pub place_at : (leads : List LeadLine) (i : ℕ) (e : LeadLine) → i < length leads → IsPlace leads i (get_or leads i e).at
place_at leads i e lt = record { within = lt; address = λ d. ap (λ (l : LeadLine). l.at) (get_or_default leads i d e lt) }

pub lead_at : (leads : List LeadLine) (i a : ℕ) → IsPlace leads i a → IsLead leads a
lead_at leads i a place = record {
  line = get_or leads i no_lead;
  listed = (i, place.within, get_or_default leads i (get_or leads i no_lead) no_lead place.within);
  address = place.address no_lead;
}

pub place_of_line : (leads : List LeadLine) (line : LeadLine) (a : ℕ) → (listed : Contains leads line) → line.at ≡ a → IsPlace leads listed.0 a
place_of_line leads line a listed at = record {
  within = listed.1;
  address = λ d. ap (λ (l : LeadLine). l.at) (get_or_default leads listed.0 d line listed.1 ∙ listed.2) ∙ at;
}

pub place_of_lead : (leads : List LeadLine) (a : ℕ) → IsLead leads a → (i : ℕ) × IsPlace leads i a
place_of_lead leads a h = (h.listed.0, place_of_line leads h.line a h.listed h.address)

-- places and addresses rise together

pub places_rise : (leads : List LeadLine) → LeadsRise leads → (i j a b : ℕ) → IsPlace leads i a → IsPlace leads j b → i < j → a < b
places_rise leads up i j a b one other lt =
    let less : (get_or leads i no_lead).at < (get_or leads j no_lead).at = up i j no_lead lt other.within in
    let left : (get_or leads i no_lead).at ≡ a = one.address no_lead in
    let right : (get_or leads j no_lead).at ≡ b = other.address no_lead in
    omega arith

pub one_place : (leads : List LeadLine) → LeadsRise leads → (i j a : ℕ) → IsPlace leads i a → IsPlace leads j a → i ≡ j
one_place leads up i j a one other =
    elim (cases_eq i j) [
      | inl e ↦ e
      | inr ne ↦ elim (cases_lt i j) [
        | inl lt ↦ let less : a < a = places_rise leads up i j a a one other lt in absurd (omega arith)
        | inr le ↦ let less : a < a = places_rise leads up j i a a other one (omega arith) in absurd (omega arith)
      ]
    ]

pub one_address : (leads : List LeadLine) (i a b : ℕ) → IsPlace leads i a → IsPlace leads i b → a ≡ b
one_address leads i a b one other = sym (one.address no_lead) ∙ other.address no_lead

-- so those up to an address lie up to its place
pub placed_before : (leads : List LeadLine) → LeadsRise leads → (i j a b : ℕ) → IsPlace leads i a → IsPlace leads j b → a < b → i < j
placed_before leads up i j a b one other lt =
    elim (cases_lt i j) [
      | inl less ↦ less
      | inr le ↦ elim (cases_eq i j) [
        | inl e ↦ let same : a ≡ b = one_address leads i a b one (subst (λ k. IsPlace leads k b) (sym e) other) in absurd (omega arith)
        | inr ne ↦ let less : b < a = places_rise leads up j i b a other one (omega arith) in absurd (omega arith)
      ]
    ]

pub lead_known : (map : InstructionMap) (leads : List LeadLine) → AreLeads map leads → (i a : ℕ) → IsPlace leads i a → IsSome (map a)
lead_known map leads are i a place =
    let h = lead_at leads i a place in
    subst (λ x. IsSome (map x)) h.address (All-contains (λ (l : LeadLine). IsSome (map l.at)) leads h.line are.known h.listed)

-- the rank of a line, by its place

pub below_at : (leads : List LeadLine) → LeadsRise leads → (i a rank : ℕ) (d : LeadLine) → IsPlace leads i a → IsTrue (ltb (get_or leads i d).rank rank) ↔ IsLeadBelow leads rank a
below_at leads up i a rank d place = (
  λ e. record {
    line = get_or leads i d;
    listed = (i, place.within, get_or_default leads i (get_or leads i d) d place.within);
    address = place.address d;
    lower = ltb-true (get_or leads i d).rank rank e;
  },
  λ h.
      let same : h.listed.0 ≡ i = one_place leads up h.listed.0 i a (place_of_line leads h.line a h.listed h.address) place in
      let is : get_or leads i d ≡ h.line = ap (λ k. get_or leads k d) (sym same) ∙ get_or_default leads h.listed.0 d h.line h.listed.1 ∙ h.listed.2 in
      let lower : (get_or leads i d).rank < rank = subst (λ (l : LeadLine). l.rank < rank) (sym is) h.lower in
      lt-ltb (get_or leads i d).rank rank lower,
)

pub return_below : (returns : List ReturnLine) → ReturnsRise returns → (line : ReturnLine) (k rank : ℕ) → Contains returns line → line.at ≡ k → IsTrue (ltb line.rank rank) ↔ IsReturnBelow returns rank k
return_below returns up line k rank listed at = (
  λ e. record { line = line; listed = listed; address = at; lower = ltb-true line.rank rank e },
  λ h.
      let same : h.line ≡ line = one_by_key (λ (l : ReturnLine). l.at) returns up h.line line h.listed listed (h.address ∙ sym at) in
      lt-ltb line.rank rank (subst (λ (l : ReturnLine). l.rank < rank) same h.lower),
)

-- a part, by its lists

pub part_from : (part : Part) (returns : List ReturnLine) (leads : List LeadLine) → returns ≡ part.returns → leads ≡ part.leads → ReturnsRise returns → LeadsRise leads → PartRises part
part_from part returns leads same also up on = record {
  returns = rise_next (λ (l : ReturnLine). l.at) part.returns no_return (subst ReturnsRise same up);
  leads = rise_next (λ (l : LeadLine). l.at) part.leads no_lead (subst LeadsRise also on);
}

pub part_returns : (part : Part) (returns : List ReturnLine) → returns ≡ part.returns → PartRises part → ReturnsRise returns
part_returns part returns same up = subst ReturnsRise (sym same) (rise_on (λ (l : ReturnLine). l.at) part.returns no_return up.returns)

pub part_leads : (part : Part) (leads : List LeadLine) → leads ≡ part.leads → PartRises part → LeadsRise leads
part_leads part leads same up = subst LeadsRise (sym same) (rise_on (λ (l : LeadLine). l.at) part.leads no_lead up.leads)
