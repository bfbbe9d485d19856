-- What the links of leaders tell, whatever the ranks.
use Rattle.std.proofs.Common.{◌≡◌, ℕ, ◌+◌, ◌<◌, ◌≤◌, List, Option, Some, None, length, map, get_or, refl, sym, ap, ◌∙◌, subst, inl, inr, arith}
use Rattle.std.specs.Prelude.{All, Contains, IsSome, MatchOption}
use Rattle.std.proofs.lemmas.List.{get_or_default, length-map}
use Rattle.std.proofs.Math.ListN.{get_or-map}
use Rattle.cfg_model.specs.Program.Instructions.{InstructionMap}
use Rattle.cfg_model.specs.Program.Chain.{IsTerminatorOf}
use Rattle.cfg_model.specs.Program.Meeting.{IsStop}
use Rattle.cfg_model.specs.Graph.Block.{RunsTo}
use Rattle.cfg_model.proofs.Graphs.Lists.{Contains-none}
use Rattle.cfg_model.proofs.Program.ChainEnds.{one_end}
use Rattle.cert_text.specs.declared.lines.LeadLine.{LeadLine}
use Rattle.cert_text.specs.declared.lines.ReturnLine.{ReturnLine}
use Rattle.cert_laws.specs.Lines.{IsLead, IsLeadBelow}
use Rattle.cert_ends.proofs.ListedEnds.{terminator_stands}
use Rattle.cert_ends.specs.Places.{IsPlace}
use Rattle.cert_ends.proofs.Placed.{no_lead}
use Rattle.cert_make.specs.declared.chain_ends.Ends.{Ends}
use Rattle.cert_make.specs.declared.exits.Exit.{Exit}
use Rattle.cert_make.specs.declared.firsts.Offer.{Offer}
use Rattle.cert_make.specs.declared.links.Links.{Links}
use Rattle.cert_make.specs.Reason.{GoesTo}
use Rattle.cert_make.specs.Inner.Returns.{IsNotAfter}
use Rattle.cert_make.specs.Inner.Ends.{AreEnds, AreExits, IsExit}
use Rattle.cert_make.specs.Inner.Links.{AreLinks}
use Rattle.cert_make.specs.Inner.Offers.{AreFirsts, AreWithin, IsFirstOf, IsHandedOn, IsOwnOffer, IsUpTo, LeadsTo, TellCall, exit_at}
use Rattle.cert_make.specs.Inner.Places.{IsAt, at}
use Rattle.cert_make.specs.Inner.Runs.{GoesInto}
use Rattle.cert_make.specs.Inner.Settled.{AreNearestLeads, IsNearestLead, NoneLeads}
use Rattle.cert_make.proofs.ExactLeads.{lead_at_of}
use Rattle.cert_make.proofs.Offered.{through}
use Rattle.cert_make.proofs.LeadRows.{at_index, same_length}

-- ---- lines at the same addresses have the same links

module _ (code : InstructionMap) (xs ys : List LeadLine) (same : map lead_at_of xs ≡ map lead_at_of ys) where
  place_same : (i a : ℕ) → IsPlace xs i a → IsPlace ys i a
  place_same i a place = record {
    within = omega (arith, place.within, same_length ys xs same);
    address = λ d. at_index ys xs same i d place.within ∙ place.address d;
  }

  lead_same : (a : ℕ) → IsLead xs a → IsLead ys a
  lead_same a lead =
      let i = lead.listed.0 in
      let lt : i < length ys = omega (arith, lead.listed.1, same_length ys xs same) in
      record {
        line = get_or ys i no_lead;
        listed = (i, lt, get_or_default ys i (get_or ys i no_lead) no_lead lt);
        address = at_index ys xs same i no_lead lead.listed.1 ∙ ap lead_at_of (get_or_default xs i no_lead lead.line lead.listed.1 ∙ lead.listed.2) ∙ lead.address;
      }

  into_same : (last : ℕ) (into : Option ℕ) → GoesInto code xs last into → GoesInto code ys last into
  into_same last None ends = ends
  into_same last (Some j) goes = (goes.0, place_same j goes.0 goes.1, goes.2)

runs_same : (code : InstructionMap) (xs ys : List LeadLine) → ((a : ℕ) → IsLead ys a → IsLead xs a) → {s k : ℕ} → RunsTo code (IsLead xs) s k → RunsTo code (IsLead ys) s k
runs_same code xs ys back RunsTo.here = RunsTo.here
runs_same code xs ys back (RunsTo.on {next = next} goes none rest) = RunsTo.on goes (λ lead. none (back next lead)) (runs_same code xs ys back rest)

stop_same : (code : InstructionMap) (xs ys : List LeadLine) (k : ℕ) → ((a : ℕ) → IsLead xs a → IsLead ys a) → IsStop code (IsLead xs) k → IsStop code (IsLead ys) k
stop_same code xs ys k there (inl ends) = inl ends
stop_same code xs ys k there (inr on) = inr (on.0, on.1, there on.0 on.2)

pub links_same : (code : InstructionMap) (xs ys : List LeadLine) (links : Links) → map lead_at_of ys ≡ map lead_at_of xs → AreLinks code xs links → AreLinks code ys links
links_same code xs ys links same are = record {
  runs = record {
    as_many = are.runs.as_many ∙ sym (same_length xs ys same);
    each = λ i d lt.
        let run = are.runs.each i d (omega (arith, lt, same_length xs ys same)) in
        record {
          start = run.start;
          place = place_same code xs ys (sym same) i run.start run.place;
          last = record {
            runs = runs_same code xs ys (lead_same code ys xs same) run.last.runs;
            stops = stop_same code xs ys _ (lead_same code xs ys (sym same)) run.last.stops;
          };
          into = into_same code xs ys (sym same) _ _ run.into;
        };
  };
  ends = subst (λ xs. AreEnds code xs links.ends) (sym same) are.ends;
  exits = subst (λ xs. AreExits code xs links.ends.terms.items links.exits.items) (sym same) are.exits;
}

-- ---- what is asked before ways are listed

module _ (code : InstructionMap) (leaders : List ℕ) (ends : Ends) (are : AreEnds code leaders ends) where
  pub terms_stand : All (λ k. IsSome (code k)) ends.terms.items
  terms_stand i d lt =
      let found = are.only (get_or ends.terms.items i d) (i, lt, get_or_default ends.terms.items i _ d lt) in
      terminator_stands code (get_or ends.terms.items i d) found.2.ends

  pub terms_tell : (returns : List ReturnLine) → ((a k : ℕ) → Contains leaders a → IsTerminatorOf code a k → TellCall code returns k) → All (TellCall code returns) ends.terms.items
  terms_tell returns tell i d lt =
      let found = are.only (get_or ends.terms.items i d) (i, lt, get_or_default ends.terms.items i _ d lt) in
      tell found.0 (get_or ends.terms.items i d) found.1 found.2

-- ---- the nearest leaders

abbrev pub no_exit : Exit
no_exit = record { end = 0; to = 0 }

module _ (code : InstructionMap) (lines : List LeadLine) (links : Links) (are : AreLinks code lines links) where
  abbrev pub leaders : List ℕ
  leaders = map lead_at_of lines

  long : length leaders ≡ length lines
  long = length-map lines lead_at_of

  abbrev pub terms : List ℕ
  terms = links.ends.terms.items

  abbrev pub of : List ℕ
  of = links.ends.of.items

  abbrev pub exits : List Exit
  exits = links.exits.items

  leader_is : (i : ℕ) (d : LeadLine) → i < length lines → at leaders i ≡ (get_or lines i d).at
  leader_is i d lt = get_or_default leaders i 0 (lead_at_of d) (omega (arith, lt, long)) ∙ get_or-map lead_at_of lines i d

  leader_at : (i a : ℕ) → IsPlace lines i a → IsAt leaders i a
  leader_at i a place = record { within = omega (arith, place.within, long); is = leader_is i no_lead place.within ∙ place.address no_lead }

  pub ends_as_many : length of ≡ length lines
  ends_as_many = are.ends.as_many ∙ long

  end_of : (i : ℕ) → i < length lines → (k : ℕ) × IsAt terms (at of i) k × IsTerminatorOf code (get_or lines i no_lead).at k
  end_of i lt = are.ends.right i (get_or lines i no_lead).at (record { within = omega (arith, lt, long); is = leader_is i no_lead lt })

  pub ends_within : (i : ℕ) → i < length lines → get_or of i 0 < length terms
  ends_within i lt = (end_of i lt).1.within

  exit_right : (x : Exit) → Contains exits x → IsExit code leaders terms x
  exit_right x listed = elim (are.exits.nothing_else x listed) [ inl none ↦ absurd (Contains-none x none) | inr is ↦ is ]

  pub exits_within : (count : ℕ) → count ≡ length terms → AreWithin count (length lines) exits
  exits_within count is = record { each = λ x listed. let exit = exit_right x listed in (omega (arith, exit.end, is), omega (arith, exit.of.to, long)) }

  module _ (nearest : List (Option Offer)) (near : AreFirsts (length terms) (IsOwnOffer lines of (length lines)) nearest)
      (firsts : List (Option Offer)) (are_first : AreFirsts (length lines) (IsHandedOn exits nearest (length exits)) firsts) (t a : ℕ) (place : IsPlace lines t a) where
    -- an offer tells of a leader with a way
    record Told (o : Offer) : Type 0 where
      below : IsLeadBelow lines (o.rank + 1) o.lead
      way : LeadsTo code o.lead a

    first_gives : (e : ℕ) (o : Offer) → e < length terms → get_or nearest e None ≡ Some o → IsOwnOffer lines of (length lines) e o
    first_gives e o lt is = (subst (IsFirstOf (IsOwnOffer lines of (length lines) e)) is (near.each e lt)).0

    told : (o : Offer) → IsHandedOn exits nearest (length exits) t o → Told o
    told o handed =
        let x = exit_at exits handed.place in
        let exit = exit_right x (handed.place, handed.early, get_or_default exits handed.place x no_exit handed.early) in
        let own = first_gives x.end o exit.end handed.offered in
        let i = own.place in
        let end = end_of i own.early in
        let goes : GoesTo code (at terms x.end) (at leaders x.to) = exit.of.among in
        let to : at leaders x.to ≡ a = ap (at leaders) handed.there ∙ (leader_at t a place).is in
        let term : at terms x.end ≡ end.0 = ap (at terms) (sym own.there) ∙ end.1.is in
        let rank : o.rank ≡ (get_or lines i no_lead).rank = own.rank no_lead in
        record {
          below = record {
            line = get_or lines i no_lead;
            listed = (i, own.early, get_or_default lines i (get_or lines i no_lead) no_lead own.early);
            address = sym (own.lead no_lead);
            lower = omega arith;
          };
          way = subst (λ p. LeadsTo code p a) (sym (own.lead no_lead)) (end.0, end.2, subst (λ k. GoesTo code k a) term (subst (GoesTo code (at terms x.end)) to goes));
        }

    -- a leader with a way is offered, or one before it
    record Offered (rank p : ℕ) : Type 0 where
      offer : Offer
      handed : IsHandedOn exits nearest (length exits) t offer
      before : (rank : ℕ) × (lead : ℕ) × IsNotAfter offer.rank offer.lead rank lead × (lead ≡ p)
      low : before.0 < rank

    offered_by : (rank p e : ℕ) (own : Offer) (found : Option Offer) → get_or nearest e None ≡ found → IsFirstOf (IsOwnOffer lines of (length lines) e) found → IsOwnOffer lines of (length lines) e own → own.lead ≡ p → own.rank < rank
        → (x : Exit) → Contains exits x → x.end ≡ e → x.to ≡ t → Offered rank p
    offered_by rank p e own None is none gives lead low x listed from goes = absurd (none own gives)
    offered_by rank p e own (Some w) is first gives lead low x listed from goes = record {
      offer = w;
      handed = record {
        place = listed.0;
        early = listed.1;
        there = ap (λ (y : Exit). y.to) there ∙ goes;
        offered = ap (λ (y : Exit). get_or nearest y.end None) there ∙ ap (λ n. get_or nearest n None) from ∙ is;
      };
      before = (own.rank, own.lead, first.1 own gives, lead);
      low = low;
    }
      where
        there : exit_at exits listed.0 ≡ x
        there = get_or_default exits listed.0 no_exit x listed.1 ∙ listed.2

    offered : (rank p : ℕ) → IsLeadBelow lines rank p → LeadsTo code p a → Offered rank p
    offered rank p below way =
        let i = below.listed.0 in
        let lt : i < length lines = below.listed.1 in
        let is : (d : LeadLine) → get_or lines i d ≡ below.line = λ d. get_or_default lines i d below.line lt ∙ below.listed.2 in
        let e = at of i in
        let end = end_of i lt in
        let ends : IsTerminatorOf code p end.0 = subst (λ b. IsTerminatorOf code b end.0) (ap lead_at_of (is no_lead) ∙ below.address) end.2 in
        let same : way.0 ≡ end.0 = one_end code p way.0 end.0 way.1 ends in
        let goes : GoesTo code (at terms e) (at leaders t) =
        subst (λ k. GoesTo code k (at leaders t)) (same ∙ sym end.1.is) (subst (GoesTo code way.0) (sym (leader_at t a place).is) way.2) in
        let x : Exit = record { end = e; to = t } in
        let own : Offer = record { rank = below.line.rank; lead = below.line.at } in
        offered_by rank p e own (get_or nearest e None) refl (near.each e end.1.within)
        (record { place = i; early = lt; there = refl; rank = λ d. ap (λ (l : LeadLine). l.rank) (sym (is d)); lead = λ d. ap (λ (l : LeadLine). l.at) (sym (is d)) })
        below.address below.lower x
        (are.exits.added x (record { end = end.1.within; of = record { from = refl; to = omega (arith, place.within, long); among = goes } }))
        refl refl

    none_leads : ((o : Offer) → ¬ IsHandedOn exits nearest (length exits) t o) → NoneLeads lines (λ p. LeadsTo code p a)
    none_leads none rank p below way = let by = offered rank p below way in none by.offer by.handed

    nearest_lead : (o : Offer) → IsHandedOn exits nearest (length exits) t o × ((x : Offer) → IsHandedOn exits nearest (length exits) t x → IsUpTo o x) → IsNearestLead lines (λ p. LeadsTo code p a) o.rank o.lead
    nearest_lead o first = record {
      listed = (told o first.0).below;
      leads = (told o first.0).way;
      first = λ more p below way.
          let by = offered more p below way in
          let r = by.before.0 in
          let l = by.before.1 in
          let before : IsNotAfter o.rank o.lead r l = through o.rank o.lead by.offer.rank by.offer.lead r l (first.1 by.offer by.handed) by.before.2 in
          let is : l ≡ p = by.before.3 in
          let low : r < more = by.low in
          elim before [
            | inl lt ↦ (omega arith, λ e. absurd (omega arith))
            | inr both ↦ let e' : o.rank ≡ r = both.0 in let le : o.lead ≤ l = both.1 in (omega arith, λ e. omega arith)
          ];
    }

    pub nearest_or_none : (o : Option Offer) → IsFirstOf (IsHandedOn exits nearest (length exits) t) o → MatchOption o (NoneLeads lines (λ p. LeadsTo code p a)) (λ w. IsNearestLead lines (λ p. LeadsTo code p a) w.rank w.lead)
    nearest_or_none None first = none_leads first
    nearest_or_none (Some o) first = nearest_lead o first

  pub are_nearest : (nearest firsts : List (Option Offer)) → AreFirsts (length terms) (IsOwnOffer lines of (length lines)) nearest → AreFirsts (length lines) (IsHandedOn exits nearest (length exits)) firsts → AreNearestLeads lines (LeadsTo code) firsts
  are_nearest nearest firsts near first = record {
    long = first.long;
    each = λ i a d place.
        let lt : i < length lines = place.within in
        subst (λ o. MatchOption o (NoneLeads lines (λ p. LeadsTo code p a)) (λ w. IsNearestLead lines (λ p. LeadsTo code p a) w.rank w.lead)) (sym (get_or_default firsts i d None (omega (arith, lt, first.long))))
        (nearest_or_none nearest near firsts first i a place (get_or firsts i None) (first.each i lt));
  }
