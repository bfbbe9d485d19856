-- Tables of lines at the same addresses.
use Rattle.std.proofs.Common.{◌≡◌, ℕ, ◌+◌, ◌<◌, ◌≤◌, List, ◌∷◌, [], ◌++◌, map, length, take, get_or, refl, sym, subst, ap, ◌∙◌, arith}
use Rattle.std.specs.Prelude.{All, IsSome}
use Rattle.std.proofs.lemmas.List.{take_more, take_all, length-map, map-append, get_or_default}
use Rattle.std.proofs.Math.ListN.{get_or-map}
use Rattle.std.proofs.lemmas.List.Elements.{All-push}
use Rattle.cert_text.specs.declared.lines.LeadLine.{LeadLine}
use Rattle.cfg_model.specs.Program.Instructions.{InstructionMap}
use Rattle.cert_ends.specs.Places.{LeadsRise}
use Rattle.cert_ends.proofs.Adjacent.{rise_on, rise_next}
use Rattle.cert_ends.proofs.Placed.{no_lead}
use Rattle.cert_make.specs.Inner.Settled.{IsSettledLead, IsSettledLeadFor, AreLeadsSettledBy, LeadsHaveSameRanks}
use Rattle.cert_make.proofs.ExactLeads.{lead_at_of}
use Rattle.cert_make.proofs.Ranks.{leads_weaker}
use Rattle.cert_laws.specs.Lines.{IsLeadBelow}

pub record AreLeadsAt (code : InstructionMap) (start lines : List LeadLine) : Type 0 where
  pub same : map lead_at_of lines ≡ map lead_at_of start
  pub rising : LeadsRise lines
  pub stand : All (λ (l : LeadLine). IsSome (code l.at)) lines

pub same_rise : (xs ys : List LeadLine) → map lead_at_of ys ≡ map lead_at_of xs → LeadsRise xs → LeadsRise ys
same_rise xs ys same up = rise_on lead_at_of ys no_lead (rw same (rise_next lead_at_of xs no_lead up))

pub at_index : (xs ys : List LeadLine) → map lead_at_of ys ≡ map lead_at_of xs → (i : ℕ) (d : LeadLine) → i < length ys → (get_or xs i d).at ≡ (get_or ys i d).at
at_index xs ys same i d lt =
    sym (get_or-map lead_at_of xs i d) ∙ ap (λ (ns : List ℕ). get_or ns i (lead_at_of d)) (sym same) ∙ get_or-map lead_at_of ys i d

pub same_length : (xs ys : List LeadLine) → map lead_at_of ys ≡ map lead_at_of xs → length ys ≡ length xs
same_length xs ys same = sym (length-map ys lead_at_of) ∙ ap length same ∙ length-map xs lead_at_of

pub same_stand : (code : InstructionMap) (xs ys : List LeadLine) → map lead_at_of ys ≡ map lead_at_of xs → All (λ (l : LeadLine). IsSome (code l.at)) xs → All (λ (l : LeadLine). IsSome (code l.at)) ys
same_stand code xs ys same all i d lt =
    let long : length ys ≡ length xs = same_length xs ys same in
    subst (λ (a : ℕ). IsSome (code a)) (at_index xs ys same i d lt) (all i d (omega arith))

pub first_at : (code : InstructionMap) (start : List LeadLine) → LeadsRise start → All (λ (l : LeadLine). IsSome (code l.at)) start → AreLeadsAt code start start
first_at code start up stand = record { same = refl; rising = up; stand = stand }

pub next_at : (code : InstructionMap) (seeds : List ℕ) (start lines next : List LeadLine) → AreLeadsAt code start lines → AreLeadsSettledBy code seeds lines lines next → AreLeadsAt code start next
next_at code seeds start lines next are step = record {
  same = step.same ∙ are.same;
  rising = same_rise lines next step.same are.rising;
  stand = same_stand code lines next step.same are.stand;
}

-- where two tables have the same addresses and ranks, a line is settled by both or by none

moved : (xs ys : List LeadLine) → map lead_at_of xs ≡ map lead_at_of ys → LeadsHaveSameRanks xs ys → (rank k : ℕ) → IsLeadBelow xs rank k → IsLeadBelow ys rank k
moved xs ys same alike rank k below =
    let i = below.listed.0 in
    let d = below.line in
    let lt : i < length xs = below.listed.1 in
    let is : get_or xs i d ≡ below.line = below.listed.2 in
    let long : length xs ≡ length ys = same_length ys xs same in
    let address : (get_or ys i d).at ≡ (get_or xs i d).at = at_index ys xs same i d lt in
    let low : (get_or xs i d).rank < rank = subst (λ (l : LeadLine). l.rank < rank) (sym is) below.lower in
    let equal : (get_or xs i d).rank ≡ (get_or ys i d).rank = alike i d lt in
    record {
      line = get_or ys i d;
      listed = (i, omega arith, get_or_default ys i (get_or ys i d) d (omega arith));
      address = address ∙ ap lead_at_of is ∙ below.address;
      lower = omega arith;
    }

moved_back : (xs ys : List LeadLine) → map lead_at_of xs ≡ map lead_at_of ys → LeadsHaveSameRanks xs ys → (rank k : ℕ) → IsLeadBelow ys rank k → IsLeadBelow xs rank k
moved_back xs ys same alike =
    let long : length xs ≡ length ys = same_length ys xs same in
    moved ys xs (sym same) (λ i d lt. sym (alike i d (omega arith)))

settled_by_same : (code : InstructionMap) (seeds : List ℕ) (xs ys : List LeadLine) → map lead_at_of xs ≡ map lead_at_of ys → LeadsHaveSameRanks xs ys → (l : LeadLine) → IsSettledLead code seeds ys l → IsSettledLead code seeds xs l
settled_by_same code seeds xs ys same alike l settled = record {
  why = record {
    fits = leads_weaker code seeds (IsLeadBelow ys l.rank) (IsLeadBelow xs l.rank) (moved_back xs ys same alike l.rank) l.at l.why settled.why.fits;
    first = λ why fits. settled.why.first why (leads_weaker code seeds (IsLeadBelow xs l.rank) (IsLeadBelow ys l.rank) (moved xs ys same alike l.rank) l.at why fits);
  };
  least = λ rank why lt fits. settled.least rank why lt (leads_weaker code seeds (IsLeadBelow xs rank) (IsLeadBelow ys rank) (moved xs ys same alike rank) l.at why fits);
}

pub at_rest : (code : InstructionMap) (seeds : List ℕ) (start lines next : List LeadLine) → AreLeadsAt code start lines → AreLeadsSettledBy code seeds lines lines next → LeadsHaveSameRanks next lines → AreLeadsSettledBy code seeds next start next
at_rest code seeds start lines next are step ranks = record {
  same = step.same ∙ are.same;
  settled = λ i d lt. settled_by_same code seeds next lines step.same ranks (get_or next i d) (step.settled i d lt);
}

pub none_yet : (code : InstructionMap) (seeds : List ℕ) (lines : List LeadLine) → AreLeadsSettledBy code seeds lines [] []
none_yet code seeds lines = record { same = refl; settled = λ i d lt. absurd (omega arith) }

pub one_more : (code : InstructionMap) (seeds : List ℕ) (lines some next : List LeadLine) (i : ℕ) (l : LeadLine) → i < length some → AreLeadsSettledBy code seeds lines (take i some) next → l.at ≡ (get_or some i no_lead).at → IsSettledLead code seeds lines l → AreLeadsSettledBy code seeds lines (take (i + 1) some) (next ++ l ∷ [])
one_more code seeds lines some next i l lt before at settled = record {
  same = map-append lead_at_of next (l ∷ []) ∙ ap (λ (ns : List ℕ). ns ++ l.at ∷ []) before.same ∙ ap (λ (a : ℕ). map lead_at_of (take i some) ++ a ∷ []) at ∙ sym (map-append lead_at_of (take i some) (get_or some i no_lead ∷ [])) ∙ ap (map lead_at_of) (sym (take_more some i no_lead lt));
  settled = All-push (IsSettledLead code seeds lines) next l before.settled settled;
}

pub all_done : (code : InstructionMap) (seeds : List ℕ) (lines next : List LeadLine) (i : ℕ) → length lines ≤ i → AreLeadsSettledBy code seeds lines (take i lines) next → AreLeadsSettledBy code seeds lines lines next
all_done code seeds lines next i long are = subst (λ (ls : List LeadLine). AreLeadsSettledBy code seeds lines ls next) (take_all i lines long) are

pub one_added : (code : InstructionMap) (seeds : List ℕ) (lines next more : List LeadLine) (i : ℕ) (l : LeadLine) → i < length lines → AreLeadsSettledBy code seeds lines (take i lines) next
    → IsSettledLeadFor code seeds lines (get_or lines i no_lead).at l → more ≡ next ++ l ∷ [] → AreLeadsSettledBy code seeds lines (take (i + 1) lines) more
one_added code seeds lines next more i l lt before here added =
    subst (AreLeadsSettledBy code seeds lines (take (i + 1) lines)) (sym added) (one_more code seeds lines lines next i l lt before here.0 here.1)
