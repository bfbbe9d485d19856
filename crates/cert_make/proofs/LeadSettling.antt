-- The line that a step finds for a leader.
use Rattle.std.proofs.Common.{◌≡◌, ℕ, ◌+◌, ◌<◌, ◌≤◌, List, Option, Some, None, length, get_or, refl, sym, subst, ap, ◌∙◌, arith, ⊎_elim}
use Rattle.std.specs.Prelude.{All, Contains, IfSome, MatchOption}
use Rattle.std.proofs.lemmas.List.Elements.{All-contains}
use Rattle.cfg_model.specs.Program.Instructions.{InstructionMap}
use Rattle.cert_text.specs.declared.lines.LeadLine.{LeadLine}
use Rattle.cert_text.specs.declared.lines.LeadWhy.{LeadWhy}
use Rattle.cert_text.specs.declared.lines.LeadWhy.TheVariants.{Seed, From, Join}
use Rattle.cert_laws.specs.Lines.{IsLeadBelow}
use Rattle.cert_ends.specs.Places.{IsPlace}
use Rattle.cert_make.specs.declared.firsts.Offer.{Offer}
use Rattle.cert_make.specs.declared.joins.Meeting.{Meeting}
use Rattle.cert_make.specs.Reason.{LeadsFor, MeetsBy}
use Rattle.cert_make.specs.First.{LeadWhyBefore}
use Rattle.cert_make.specs.Inner.Offers.{LeadsTo}
use Rattle.cert_make.specs.Inner.Settled.{IsSettledLead, IsSettledLeadFor, IsNearestLead, NoneLeads, AreNearestLeads, IsFirstJoin, NoneJoin, AreJoins, HasNoLeadReason, IsJoinAt}

-- ---- lines

abbrev lead_of : ℕ → ℕ → LeadWhy → LeadLine
lead_of at rank why = record { at = at; rank = rank; why = why }

none_before_seed : (why : LeadWhy) → LeadWhyBefore why Seed → ⊥
none_before_seed Seed before = before
none_before_seed (From lead) before = before
none_before_seed (Join first second) before = before

pub by_seed : (code : InstructionMap) (seeds : List ℕ) (lines : List LeadLine) (a : ℕ) → Contains seeds a → IsSettledLeadFor code seeds lines a (lead_of a 0 Seed)
by_seed code seeds lines a among = (
  refl,
  record {
    why = record { fits = among; first = λ why fits. none_before_seed why };
    least = λ rank why lt. absurd (omega arith);
  },
)

module _ (code : InstructionMap) (seeds : List ℕ) (lines : List LeadLine) (a : ℕ) (no_seed : Contains seeds a → ⊥) where
  module _ (rank lead : ℕ) (near : IsNearestLead lines (λ p. LeadsTo code p a) rank lead)
      (joins : (more p q : ℕ) → IsLeadBelow lines more p → IsLeadBelow lines more q → MeetsBy code 2 p a → MeetsBy code 4 q a → rank < more) where
    way_above : (more : ℕ) (why : LeadWhy) → LeadsFor code seeds (IsLeadBelow lines more) a why → rank < more
    way_above more Seed reason = absurd (no_seed reason)
    way_above more (From p) reason = (near.first more p reason.0 reason.1).0
    way_above more (Join p q) reason = joins more p q reason.0 reason.1 reason.2 reason.3

    none_before_way : (why : LeadWhy) → LeadsFor code seeds (IsLeadBelow lines (rank + 1)) a why → LeadWhyBefore why (From lead) → ⊥
    none_before_way Seed reason before = no_seed reason
    none_before_way (From p) reason before = let le : lead ≤ p = (near.first (rank + 1) p reason.0 reason.1).1 refl in omega arith
    none_before_way (Join p q) reason before = before

    pub settled_way : IsSettledLead code seeds lines (lead_of a (rank + 1) (From lead))
    settled_way = record {
      why = record { fits = (near.listed, near.leads); first = none_before_way };
      least = λ more why lt reason. let above : rank < more = way_above more why reason in omega arith;
    }

  module _ (rank first second : ℕ) (join : IsFirstJoin code lines a rank first second)
      (ways : (more p : ℕ) → IsLeadBelow lines more p → LeadsTo code p a → rank + 1 < more) where
    join_above : (more : ℕ) (why : LeadWhy) → LeadsFor code seeds (IsLeadBelow lines more) a why → rank < more
    join_above more Seed reason = absurd (no_seed reason)
    join_above more (From p) reason = let lt : rank + 1 < more = ways more p reason.0 reason.1 in omega arith
    join_above more (Join p q) reason = join.below more p q reason.0 reason.1 reason.2 reason.3

    none_before_join : (why : LeadWhy) → LeadsFor code seeds (IsLeadBelow lines (rank + 1)) a why → LeadWhyBefore why (Join first second) → ⊥
    none_before_join Seed reason before = no_seed reason
    none_before_join (From p) reason before = let lt : rank + 1 < rank + 1 = ways (rank + 1) p reason.0 reason.1 in absurd (omega arith)
    none_before_join (Join p q) reason before =
        let le : first ≤ p = join.first_least.least p reason.0 reason.2 in
        let also : second ≤ q = join.second_least.least q reason.1 reason.3 in
        ⊎_elim (λ lt. absurd (omega arith)) (λ both. let lt : q < second = both.1 in absurd (omega arith)) before

    pub settled_join : IsSettledLead code seeds lines (lead_of a (rank + 1) (Join first second))
    settled_join = record {
      why = record { fits = (join.first_least.listed, join.second_least.listed, join.first_least.leads, join.second_least.leads); first = none_before_join };
      least = λ more why lt reason. let above : rank < more = join_above more why reason in omega arith;
    }

-- ---- the line that is chosen

abbrev pub NearOr : InstructionMap → List LeadLine → ℕ → Option Offer → Type 0
NearOr code lines a o = MatchOption o (NoneLeads lines (λ p. LeadsTo code p a)) (λ w. IsNearestLead lines (λ p. LeadsTo code p a) w.rank w.lead)

abbrev IsLine : LeadLine → ℕ → ℕ → LeadWhy → Type 0
IsLine l a rank why = (l.at ≡ a) × (l.rank ≡ rank) × (l.why ≡ why)

line_is : (l : LeadLine) (a rank : ℕ) (why : LeadWhy) → IsLine l a rank why → l ≡ lead_of a rank why
line_is l a rank why is = ap (λ (x : ℕ). lead_of x l.rank l.why) is.0 ∙ ap (λ (r : ℕ). lead_of a r l.why) is.1 ∙ ap (λ (w : LeadWhy). lead_of a rank w) is.2

settled_is : (code : InstructionMap) (seeds : List ℕ) (lines : List LeadLine) (a rank : ℕ) (why : LeadWhy) (l : LeadLine) → IsLine l a rank why → IsSettledLead code seeds lines (lead_of a rank why) → IsSettledLeadFor code seeds lines a l
settled_is code seeds lines a rank why l is settled =
    subst (IsSettledLeadFor code seeds lines a) (sym (line_is l a rank why is)) (refl, settled)

ways_later : (code : InstructionMap) (lines : List LeadLine) (a rank : ℕ) (o : Option Offer) → NearOr code lines a o → IfSome o (λ w. rank < w.rank) → (more p : ℕ) → IsLeadBelow lines more p → LeadsTo code p a → rank + 1 < more
ways_later code lines a rank None none lower more p below way = absurd (none more p below way)
ways_later code lines a rank (Some w) near lower more p below way = let lt : w.rank < more = (near.first more p below way).0 in omega arith

pub chosen_join : (code : InstructionMap) (seeds : List ℕ) (lines : List LeadLine) (a rank first second : ℕ) (near : Option Offer) (l : LeadLine) → (Contains seeds a → ⊥) → NearOr code lines a near → IsFirstJoin code lines a rank first second → IfSome near (λ w. rank < w.rank)
    → IsLine l a (rank + 1) (Join first second) → IsSettledLeadFor code seeds lines a l
chosen_join code seeds lines a rank first second near l no_seed is_near join lower is =
    settled_is code seeds lines a (rank + 1) (Join first second) l is (settled_join code seeds lines a no_seed rank first second join (ways_later code lines a rank near is_near lower))

pub chosen_way : (code : InstructionMap) (seeds : List ℕ) (lines : List LeadLine) (a : ℕ) (w : Offer) (l : LeadLine) → (Contains seeds a → ⊥) → NearOr code lines a (Some w)
    → ((more p q : ℕ) → IsLeadBelow lines more p → IsLeadBelow lines more q → MeetsBy code 2 p a → MeetsBy code 4 q a → w.rank < more)
    → IsLine l a (w.rank + 1) (From w.lead) → IsSettledLeadFor code seeds lines a l
chosen_way code seeds lines a w l no_seed near joins is =
    settled_is code seeds lines a (w.rank + 1) (From w.lead) l is (settled_way code seeds lines a no_seed w.rank w.lead near joins)

pub none_chosen : (code : InstructionMap) (seeds : List ℕ) (lines : List LeadLine) (a : ℕ) → (Contains seeds a → ⊥) → NoneLeads lines (λ p. LeadsTo code p a) → NoneJoin code lines a → HasNoLeadReason code seeds lines a
none_chosen code seeds lines a no_seed near join rank Seed reason = no_seed reason
none_chosen code seeds lines a no_seed near join rank (From p) reason = near rank p reason.0 reason.1
none_chosen code seeds lines a no_seed near join rank (Join p q) reason = join rank p q reason.0 reason.1 reason.2 reason.3

pub joins_later : (code : InstructionMap) (lines : List LeadLine) (a rank first second other : ℕ) → IsFirstJoin code lines a rank first second → other ≤ rank → (more p q : ℕ) → IsLeadBelow lines more p → IsLeadBelow lines more q → MeetsBy code 2 p a → MeetsBy code 4 q a → other < more
joins_later code lines a rank first second other join le more p q one two three four =
    let lt : rank < more = join.below more p q one two three four in
    omega arith

pub no_joins : (code : InstructionMap) (lines : List LeadLine) (a other : ℕ) → NoneJoin code lines a → (more p q : ℕ) → IsLeadBelow lines more p → IsLeadBelow lines more q → MeetsBy code 2 p a → MeetsBy code 4 q a → other < more
no_joins code lines a other none more p q one two three four = absurd (none more p q one two three four)

pub matched : {X : Type 0} (o : Option X) (N : Type 0) (P : X → Type 0) (x : X) → o ≡ Some x → MatchOption o N P → P x
matched o N P x is m = subst (λ p. MatchOption p N P) is m

pub unmatched : {X : Type 0} (o : Option X) (N : Type 0) (P : X → Type 0) → o ≡ None → MatchOption o N P → N
unmatched o N P is m = subst (λ p. MatchOption p N P) is m

-- ---- the ranks of what is found are those of the table

pub near_low : (code : InstructionMap) (lines : List LeadLine) (a most : ℕ) (o : Option Offer) → All (λ (l : LeadLine). l.rank < most) lines → NearOr code lines a o → IfSome o (λ w. w.rank < most)
near_low code lines a most None low near = tt
near_low code lines a most (Some w) low near =
    let line = near.listed.line in
    let least : w.rank < line.rank + 1 = (near.first (line.rank + 1) w.lead (record { line = line; listed = near.listed.listed; address = near.listed.address; lower = omega arith }) near.leads).0 in
    let lt : line.rank < most = All-contains (λ (l : LeadLine). l.rank < most) lines line low near.listed.listed in
    omega (arith, least, lt)

pub join_low : (code : InstructionMap) (lines : List LeadLine) (a most : ℕ) (o : Option Meeting) → All (λ (l : LeadLine). l.rank < most) lines
    → MatchOption o (NoneJoin code lines a) (λ j. IsFirstJoin code lines a j.rank j.first j.second) → IfSome o (λ j. j.rank < most)
join_low code lines a most None low join = tt
join_low code lines a most (Some j) low join =
    let Low : LeadLine → Type 0 = λ l. l.rank < most in
    let one = join.first_least in
    let two = join.second_least in
    let first_low : one.listed.line.rank < most = All-contains Low lines one.listed.line low one.listed.listed in
    let second_low : two.listed.line.rank < most = All-contains Low lines two.listed.line low two.listed.listed in
    join.below most j.first j.second (record { line = one.listed.line; listed = one.listed.listed; address = one.listed.address; lower = first_low })
    (record { line = two.listed.line; listed = two.listed.listed; address = two.listed.address; lower = second_low }) one.leads two.leads

-- ---- what is read for a leader

pub near_read : (code : InstructionMap) (lines : List LeadLine) (firsts : List (Option Offer)) (i a : ℕ) (o : Option Offer) → AreNearestLeads lines (LeadsTo code) firsts → IsPlace lines i a → o ≡ get_or firsts i o → NearOr code lines a o
near_read code lines firsts i a o are place is = subst (NearOr code lines a) (sym is) (are.each i a o place)

pub join_read : (code : InstructionMap) (lines : List LeadLine) (joins : List (Option Meeting)) (i : ℕ) (o : Option Meeting) → AreJoins code lines joins → i < length lines → o ≡ get_or joins i o → IsJoinAt code lines i o
join_read code lines joins i o are lt is = subst (IsJoinAt code lines i) (sym is) (are.each i o lt)
