-- Fronts of sources, and what they tell of joins.
use Rattle.std.proofs.Common.{◌≡◌, ℕ, ◌+◌, ◌<◌, ◌≤◌, ◌⊎◌, List, [], ◌∷◌, ◌++◌, Option, Some, None, length, take, get_or, refl, sym, subst, inl, inr, arith}
use Rattle.std.specs.Prelude.{◌↔◌, Contains, IfSome, MatchOption, slice_get}
use Rattle.std.specs.List.Sorted.{IsPermutation}
use Rattle.std.proofs.lemmas.List.{take_more, take_all}
use Rattle.std.proofs.lemmas.Option.{slice_get_within, get_or_from_slice_get}
use Rattle.std.proofs.lemmas.List.Sorted.{Contains-permutation, IsPermutation-sym}
use Rattle.std.proofs.lemmas.List.Elements.{Contains-append_cases, Contains-append_right, All-contains, All-push, Contains-append_left, Contains-push, Contains-push_cases}
use Rattle.cfg_model.specs.Program.Instructions.{InstructionMap}
use Rattle.cfg_model.proofs.Graphs.Lists.{Contains-none}
use Rattle.cert_text.specs.declared.lines.LeadLine.{LeadLine}
use Rattle.cert_laws.specs.Lines.{IsLeadBelow}
use Rattle.cert_make.specs.Reason.{MeetsBy}
use Rattle.cert_make.specs.declared.fronts.Source.{Source}
use Rattle.cert_make.specs.declared.joins.Meeting.{Meeting}
use Rattle.cert_make.specs.Inner.Fronts.{Covers, IsFrontOf, IsSource, IsLeastRank, IsLeastUpTo, NoneUpTo}
use Rattle.cert_make.specs.Inner.Settled.{IsLeastLead, IsFirstJoin, NoneJoin}

abbrev pub no_source : Source
no_source = record { rank = 0; lead = 0 }

pub covers_itself : (s : Source) → Covers s s
covers_itself s = (omega arith, omega arith)

pub covers_through : (a b c : Source) → Covers a b → Covers b c → Covers a c
covers_through a b c one other =
    let r : a.rank ≤ b.rank = one.0 in
    let r' : b.rank ≤ c.rank = other.0 in
    let l : a.lead ≤ b.lead = one.1 in
    let l' : b.lead ≤ c.lead = other.1 in
    (omega arith, omega arith)

-- ---- fronts of the same sources

pub front_same : (One Other : Source → Type 0) (front : List Source) → ((s : Source) → One s → Other s) → ((s : Source) → Other s → One s) → IsFrontOf One front → IsFrontOf Other front
front_same One Other front there back is = record {
  among = λ s listed. there s (is.among s listed);
  covered = λ s among. is.covered s (back s among);
}

-- of a front and more
pub front_through : (One Two : Source → Type 0) (old new : List Source) → IsFrontOf One old → IsFrontOf (λ s. Contains old s ⊎ Two s) new → IsFrontOf (λ s. One s ⊎ Two s) new
front_through One Two old new is next = record {
  among = λ s listed. elim (next.among s listed) [
    | inl before ↦ inl (is.among s before)
    | inr more ↦ inr more
  ];
  covered = λ s among. elim among [
    | inl one ↦
        let first = is.covered s one in
        let second = next.covered first.0 (inl first.1) in
        (second.0, second.1, covers_through second.0 first.0 s second.2 first.2)
    | inr two ↦ next.covered s (inr two)
  ];
}

-- of two fronts together
pub front_both : (One Two : Source → Type 0) (one other new : List Source) → IsFrontOf One one → IsFrontOf Two other → IsFrontOf (λ s. Contains one s ⊎ Contains other s) new → IsFrontOf (λ s. One s ⊎ Two s) new
front_both One Two one other new is also next = record {
  among = λ s listed. elim (next.among s listed) [
    | inl before ↦ inl (is.among s before)
    | inr more ↦ inr (also.among s more)
  ];
  covered = λ s among. elim among [
    | inl here ↦
        let first = is.covered s here in
        let second = next.covered first.0 (inl first.1) in
        (second.0, second.1, covers_through second.0 first.0 s second.2 first.2)
    | inr here ↦
        let first = also.covered s here in
        let second = next.covered first.0 (inr first.1) in
        (second.0, second.1, covers_through second.0 first.0 s second.2 first.2)
  ];
}

pub front_itself : (front : List Source) → IsFrontOf (Contains front) front
front_itself front = record { among = λ s listed. listed; covered = λ s listed. (s, listed, covers_itself s) }

pub front_empty : (Among : Source → Type 0) → ((s : Source) → Among s → ⊥) → IsFrontOf Among []
front_empty Among none = record { among = λ s listed. absurd (Contains-none s listed); covered = λ s among. absurd (none s among) }

pub front_none : (front : List Source) → front ≡ [] → IsFrontOf (Contains []) front
front_none front is = subst (IsFrontOf (Contains [])) (sym is) (front_empty (Contains []) (λ s listed. Contains-none s listed))

-- one more, covered by one of the front
pub front_skip : (front : List Source) (last source : Source) → Contains front last → Covers last source → IsFrontOf (λ s. Contains front s ⊎ (s ≡ source)) front
front_skip front last source listed covers = record {
  among = λ s here. inl here;
  covered = λ s among. elim among [
    | inl here ↦ (s, here, covers_itself s)
    | inr same ↦ (last, listed, subst (Covers last) (sym same) covers)
  ];
}

push_cases : (xs : List Source) (x s : Source) → Contains (xs ++ x ∷ []) s → Contains xs s ⊎ (s ≡ x)
push_cases xs x s listed = elim (Contains-push_cases xs x s listed) [ inl here ↦ inl here | inr same ↦ inr (sym same) ]

pub front_push : (front : List Source) (source : Source) → IsFrontOf (λ s. Contains front s ⊎ (s ≡ source)) (front ++ source ∷ [])
front_push front source = record {
  among = λ s listed. push_cases front source s listed;
  covered = λ s among. elim among [
    | inl here ↦ (s, Contains-append_left front (source ∷ []) s here, covers_itself s)
    | inr same ↦ (source, Contains-push front source, subst (Covers source) (sym same) (covers_itself source))
  ];
}

-- a front beside no source
none_of : (xs : List Source) (s : Source) → length xs ≡ 0 → Contains xs s → ⊥
none_of xs s none listed = let lt = listed.1 in omega arith

pub left_alone : (one other : List Source) → length other ≡ 0 → IsFrontOf (λ s. Contains one s ⊎ Contains other s) one
left_alone one other none =
    front_same (Contains one) (λ s. Contains one s ⊎ Contains other s) one
    (λ s here. inl here)
    (λ s h. elim h [ inl here ↦ here | inr there ↦ absurd (none_of other s none there) ])
    (front_itself one)

pub right_alone : (one other : List Source) → length one ≡ 0 → IsFrontOf (λ s. Contains one s ⊎ Contains other s) other
right_alone one other none =
    front_same (Contains other) (λ s. Contains one s ⊎ Contains other s) other
    (λ s here. inr here)
    (λ s h. elim h [ inl there ↦ absurd (none_of one s none there) | inr here ↦ here ])
    (front_itself other)

pub front_moved : (one other all slice front : List Source) → ((s : Source) → Contains all s ↔ (Contains one s ⊎ Contains other s)) → slice ≡ all → IsFrontOf (Contains slice) front → IsFrontOf (λ s. Contains one s ⊎ Contains other s) front
front_moved one other all slice front same is front_is =
    front_same (Contains all) (λ s. Contains one s ⊎ Contains other s) front
    (λ s here. (same s).0 here)
    (λ s h. (same s).1 h)
    (subst (λ (xs : List Source). IsFrontOf (Contains xs) front) is front_is)

-- the last source of a front
pub last_listed : (front : List Source) (n : ℕ) (last : Source) → slice_get front n ≡ Some last → Contains front last
last_listed front n last is = (n, slice_get_within front n last is, get_or_from_slice_get front n last last is)

-- two lists, moved about
pub both_moved : (one other moved : List Source) → IsPermutation (one ++ other) moved → (s : Source) → Contains moved s ↔ (Contains one s ⊎ Contains other s)
both_moved one other moved moves s = (
  λ listed. Contains-append_cases one other s (Contains-permutation moved (one ++ other) s (IsPermutation-sym (one ++ other) moved moves) listed),
  λ parts. Contains-permutation (one ++ other) moved s moves (elim parts [
    | inl here ↦ Contains-append_left one other s here
    | inr here ↦ Contains-append_right one other s here
  ]),
)

-- the sources so far
pub front_more : (sources : List Source) (i : ℕ) (old new : List Source) → i < length sources → IsFrontOf (Contains (take i sources)) old → IsFrontOf (λ s. Contains old s ⊎ (s ≡ get_or sources i no_source)) new → IsFrontOf (Contains (take (i + 1) sources)) new
front_more sources i old new lt is next =
    let x = get_or sources i no_source in
    subst (λ (xs : List Source). IsFrontOf (Contains xs) new) (sym (take_more sources i no_source lt))
    (front_same (λ s. Contains (take i sources) s ⊎ (s ≡ x)) (Contains (take i sources ++ x ∷ [])) new
    (λ s among. elim among [
      | inl here ↦ Contains-append_left (take i sources) (x ∷ []) s here
      | inr same ↦ subst (Contains (take i sources ++ x ∷ [])) (sym same) (Contains-push (take i sources) x)
    ])
    (λ s among. push_cases (take i sources) x s among)
    (front_through (Contains (take i sources)) (λ s. s ≡ x) old new is next))

pub front_end : (sources : List Source) (i : ℕ) (front : List Source) → length sources ≤ i → IsFrontOf (Contains (take i sources)) front → IsFrontOf (Contains sources) front
front_end sources i front le is = subst (λ (xs : List Source). IsFrontOf (Contains xs) front) (take_all i sources le) is

-- ---- the least rank

abbrev pub LeastRank : List Source → Option ℕ → Type 0
LeastRank xs o = MatchOption o (length xs ≡ 0) (IsLeastRank xs)

rank_more : (xs : List Source) (x : Source) (o : Option ℕ) (l : ℕ) → LeastRank xs o → (l ≡ x.rank) ⊎ (o ≡ Some l) → l ≤ x.rank → IfSome o (λ r. l ≤ r) → IsLeastRank (xs ++ x ∷ []) l
rank_more xs x None l none (inl same) le all = record {
  source = x;
  listed = Contains-push xs x;
  is = sym same;
  least = All-push (λ (s : Source). l ≤ s.rank) xs x (λ i d lt. let empty : length xs ≡ 0 = none in absurd (omega arith)) le;
}
rank_more xs x None l none (inr same) le all = absurd cc
rank_more xs x (Some r) l known (inl same) le all = record {
  source = x;
  listed = Contains-push xs x;
  is = sym same;
  least = All-push (λ (s : Source). l ≤ s.rank) xs x (λ i d lt. let m : r ≤ (get_or xs i d).rank = known.least i d lt in omega arith) le;
}
rank_more xs x (Some r) l known (inr same) le all =
    let is : r ≡ l = cc in
    let also : IsLeastRank xs l = subst (IsLeastRank xs) is known in
    record {
      source = also.source;
      listed = Contains-append_left xs (x ∷ []) also.source also.listed;
      is = also.is;
      least = All-push (λ (s : Source). l ≤ s.rank) xs x also.least le;
    }

pub rank_on : (xs : List Source) (i l : ℕ) (o : Option ℕ) → i < length xs → LeastRank (take i xs) o → (l ≡ (get_or xs i no_source).rank) ⊎ (o ≡ Some l) → l ≤ (get_or xs i no_source).rank → IfSome o (λ r. l ≤ r) → IsLeastRank (take (i + 1) xs) l
rank_on xs i l o lt known which le all =
    subst (λ (ys : List Source). IsLeastRank ys l) (sym (take_more xs i no_source lt)) (rank_more (take i xs) (get_or xs i no_source) o l known which le all)

-- ---- the least leader up to a rank

abbrev pub Least : List Source → ℕ → Option ℕ → Type 0
Least xs rank o = MatchOption o (NoneUpTo xs rank) (IsLeastUpTo xs rank)

pub least_skip : (xs : List Source) (rank : ℕ) (o : Option ℕ) (x : Source) → Least xs rank o → (x.rank ≤ rank → ⊥) → Least (xs ++ x ∷ []) rank o
least_skip xs rank None x least other = All-push (λ (y : Source). ¬ (y.rank ≤ rank)) xs x least other
least_skip xs rank (Some l) x least other = record {
  source = least.source;
  listed = Contains-append_left xs (x ∷ []) least.source least.listed;
  low = least.low;
  is = least.is;
  least = All-push (λ (y : Source). y.rank ≤ rank → l ≤ y.lead) xs x least.least (λ le. absurd (other le));
}

pub least_take : (xs : List Source) (rank : ℕ) (o : Option ℕ) (x : Source) (l : ℕ) → Least xs rank o → x.rank ≤ rank → (l ≡ x.lead) ⊎ (o ≡ Some l) → l ≤ x.lead → IfSome o (λ p. l ≤ p) → IsLeastUpTo (xs ++ x ∷ []) rank l
least_take xs rank None x l none low (inl same) le all = record {
  source = x;
  listed = Contains-push xs x;
  low = low;
  is = sym same;
  least = All-push (λ (y : Source). y.rank ≤ rank → l ≤ y.lead) xs x (λ i d lt below. absurd (none i d lt below)) (λ below. le);
}
least_take xs rank None x l none low (inr same) le all = absurd cc
least_take xs rank (Some p) x l least low (inl same) le all = record {
  source = x;
  listed = Contains-push xs x;
  low = low;
  is = sym same;
  least = All-push (λ (y : Source). y.rank ≤ rank → l ≤ y.lead) xs x (λ i d lt below. let m : p ≤ (get_or xs i d).lead = least.least i d lt below in omega arith) (λ below. le);
}
least_take xs rank (Some p) x l least low (inr same) le all =
    let is : p ≡ l = cc in
    let known : IsLeastUpTo xs rank l = subst (IsLeastUpTo xs rank) is least in
    record {
      source = known.source;
      listed = Contains-append_left xs (x ∷ []) known.source known.listed;
      low = known.low;
      is = known.is;
      least = All-push (λ (y : Source). y.rank ≤ rank → l ≤ y.lead) xs x known.least (λ below. le);
    }

pub least_on : (xs : List Source) (i rank : ℕ) (o : Option ℕ) → i < length xs → Least (take i xs ++ get_or xs i no_source ∷ []) rank o → Least (take (i + 1) xs) rank o
least_on xs i rank o lt least = subst (λ (ys : List Source). Least ys rank o) (sym (take_more xs i no_source lt)) least

pub least_end : (xs : List Source) (i rank : ℕ) (o : Option ℕ) → length xs ≤ i → Least (take i xs) rank o → Least xs rank o
least_end xs i rank o long least = subst (λ (ys : List Source). Least ys rank o) (take_all i xs long) least

-- ---- leaders by their front

abbrev source_of : LeadLine → Source
source_of line = record { rank = line.rank; lead = line.at }

module _ (lines : List LeadLine) (Among : ℕ → Type 0) (front : List Source) (is : IsFrontOf (IsSource lines Among) front) where
  -- a source tells of its leader
  source_below : (s : Source) (rank : ℕ) → s.rank < rank → Contains front s → IsLeadBelow lines rank s.lead
  source_below s rank lt listed =
      let from = is.among s listed in
      let e : s.rank ≡ from.line.rank = from.rank in
      record { line = from.line; listed = from.listed; address = sym from.lead; lower = omega arith }

  source_among : (s : Source) → Contains front s → Among s.lead
  source_among s listed = let from = is.among s listed in subst Among (sym from.lead) from.among

  -- a leader has one that covers it
  record Covered (rank p : ℕ) : Type 0 where
    source : Source
    listed : Contains front source
    low : source.rank < rank
    before : source.lead ≤ p

  covered_at : (rank p : ℕ) → IsLeadBelow lines rank p → Among p → Covered rank p
  covered_at rank p below among =
      let s : Source = source_of below.line in
      let found = is.covered s (record { line = below.line; listed = below.listed; rank = refl; lead = refl; among = subst Among (sym below.address) among }) in
      let lt : below.line.rank < rank = below.lower in
      let at : below.line.at ≡ p = below.address in
      let r : found.0.rank ≤ below.line.rank = found.2.0 in
      let l : found.0.lead ≤ below.line.at = found.2.1 in
      record { source = found.0; listed = found.1; low = omega arith; before = omega arith }

  pub least_of : (rank lead : ℕ) → IsLeastUpTo front rank lead → IsLeastLead lines Among rank lead
  least_of rank lead least =
      let low : least.source.rank ≤ rank = least.low in
      record {
        listed = subst (IsLeadBelow lines (rank + 1)) least.is (source_below least.source (rank + 1) (omega arith) least.listed);
        leads = subst Among least.is (source_among least.source least.listed);
        least = λ p below among.
            let found = covered_at (rank + 1) p below among in
            let r : found.source.rank < rank + 1 = found.low in
            let b : found.source.lead ≤ p = found.before in
            let le : lead ≤ found.source.lead = All-contains (λ (s : Source). s.rank ≤ rank → lead ≤ s.lead) front found.source least.least found.listed (omega arith) in
            omega arith;
      }

  pub above_least : (least : ℕ) → IsLeastRank front least → (rank p : ℕ) → IsLeadBelow lines rank p → Among p → least < rank
  above_least least known rank p below among =
      let found = covered_at rank p below among in
      let r : found.source.rank < rank = found.low in
      let le : least ≤ found.source.rank = All-contains (λ (s : Source). least ≤ s.rank) front found.source known.least found.listed in
      omega arith

  pub none_there : length front ≡ 0 → (rank p : ℕ) → IsLeadBelow lines rank p → Among p → ⊥
  none_there none rank p below among =
      let found = covered_at rank p below among in
      let lt = found.listed.1 in
      omega arith

-- some source has its rank at most
pub not_none : (front : List Source) (least rank : ℕ) → IsLeastRank front least → least ≤ rank → NoneUpTo front rank → ⊥
not_none front least rank known le none =
    let is : known.source.rank ≡ least = known.is in
    All-contains (λ (s : Source). ¬ (s.rank ≤ rank)) front known.source none known.listed (omega arith)

-- ---- joins

abbrev MeetingFront : InstructionMap → List LeadLine → ℕ → ℕ → List Source → Type 0
MeetingFront code lines bytes a front = IsFrontOf (IsSource lines (λ p. MeetsBy code bytes p a)) front

pub no_short : (code : InstructionMap) (lines : List LeadLine) (a : ℕ) (short : List Source) → MeetingFront code lines 2 a short → length short ≡ 0 → NoneJoin code lines a
no_short code lines a short is none rank p q below other one two = none_there lines (λ x. MeetsBy code 2 x a) short is none rank p below one

pub no_long : (code : InstructionMap) (lines : List LeadLine) (a : ℕ) (long : List Source) → MeetingFront code lines 4 a long → length long ≡ 0 → NoneJoin code lines a
no_long code lines a long is none rank p q below other one two = none_there lines (λ x. MeetsBy code 4 x a) long is none rank q other two

pub join_is : (code : InstructionMap) (lines : List LeadLine) (a one other rank first second : ℕ) (short long : List Source) → MeetingFront code lines 2 a short → MeetingFront code lines 4 a long
    → IsLeastRank short one → IsLeastRank long other → ((more : ℕ) → one < more → other < more → rank < more) → IsLeastUpTo short rank first → IsLeastUpTo long rank second → IsFirstJoin code lines a rank first second
join_is code lines a one other rank first second short long is also least lowest both left right = record {
  first_least = least_of lines (λ x. MeetsBy code 2 x a) short is rank first left;
  second_least = least_of lines (λ x. MeetsBy code 4 x a) long also rank second right;
  below = λ more p q below_p below_q meets_p meets_q.
      both more (above_least lines (λ x. MeetsBy code 2 x a) short is one least more p below_p meets_p)
      (above_least lines (λ x. MeetsBy code 4 x a) long also other lowest more q below_q meets_q);
}

-- by the join up to the greater of the least ranks
pub join_found : (code : InstructionMap) (lines : List LeadLine) (a one other rank : ℕ) (short long : List Source) (o : Option Meeting) → MeetingFront code lines 2 a short → MeetingFront code lines 4 a long
    → IsLeastRank short one → IsLeastRank long other → one ≤ rank → other ≤ rank → ((more : ℕ) → one < more → other < more → rank < more)
    → MatchOption o (NoneUpTo short rank ⊎ NoneUpTo long rank) (λ j. (j.rank ≡ rank) × IsLeastUpTo short rank j.first × IsLeastUpTo long rank j.second)
    → MatchOption o (NoneJoin code lines a) (λ j. IsFirstJoin code lines a j.rank j.first j.second)
join_found code lines a one other rank short long None is also least lowest le below both (inl none) = absurd (not_none short one rank least le none)
join_found code lines a one other rank short long None is also least lowest le below both (inr none) = absurd (not_none long other rank lowest below none)
join_found code lines a one other rank short long (Some j) is also least lowest le below both found =
    subst (λ (r : ℕ). IsFirstJoin code lines a r j.first j.second) (sym found.0) (join_is code lines a one other rank j.first j.second short long is also least lowest both found.1 found.2)
