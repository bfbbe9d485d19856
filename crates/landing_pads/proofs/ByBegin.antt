-- Ranges in the order of their beginnings.
use Rattle.std.proofs.Common.{◌≡◌, ℕ, ◌+◌, ◌<◌, ◌≤◌, Bool, true, false, List, [], ◌∷◌, ◌&&◌, ◌||◌, not, length, get_or, map, max, cond, Option, Some, None, is_some, eqb, ltb, leb, refl, sym, ap, ◌∙◌, arith, inl, inr}
use Rattle.std.specs.Prelude.{◌⊎◌}
use Rattle.std.specs.List.{find, filter, list_any}
use Rattle.std.specs.List.Sorted.{IsPartitionPoint, IsNonDecreasingBy, IsStableByKey, ties}
use Rattle.std.specs.Borrow.{Bor}
use Rattle.std.specs.Option.{MatchOption, option_and_then}
use Rattle.std.specs.Slice.{IsItemAt}
use Rattle.std.specs.Ordering.{nat_cmp, is_lt}
use Rattle.std.proofs.lemmas.Bool.{cases_Bool, cases_lt, cases_eq, false_from_ne_true, both_ways, eqb-true, eq-eqb, ltb-true, ltb-false}
use Rattle.std.proofs.lemmas.Bool.Decides.{nat_tests}
use Rattle.std.proofs.lemmas.List.{get_or_default}
use Rattle.std.proofs.lemmas.List.Folds.{list_any_none, list_any_at}
use Rattle.elf_image.proofs.Finds.{find-at, find-none, find-cases, is_some-find}
use Rattle.landing_pads.specs.declared.range.Range.{Range}
use Rattle.landing_pads.specs.Pad.{greatest, nearest}

-- a test of a beginning
abbrev pub begins_at : ℕ → Range → Bool
begins_at b r = eqb r.begin b

-- the place that a search by halves finds: before it the beginnings are lower
abbrev pub IsPlace : List Range → ℕ → ℕ → Type 0
IsPlace ranges b i = IsPartitionPoint (λ (r : Range). ltb r.begin b ≡ true) (λ r. ltb r.begin b ≡ false) ranges i

-- the place before which they are at b or lower
abbrev pub IsPlaceTo : List Range → ℕ → ℕ → Type 0
IsPlaceTo ranges b i = IsPartitionPoint (λ (r : Range). leb r.begin b ≡ true) (λ r. leb r.begin b ≡ false) ranges i

differs : (a b : ℕ) → (a ≡ b → ⊥) → eqb a b ≡ false
differs a b ne = false_from_ne_true (eqb a b) (λ e. ne (eqb-true a b e))

lower-differs : (a b : ℕ) → ltb a b ≡ true → eqb a b ≡ false
lower-differs a b less = let h = ltb-true a b less in differs a b (λ e. omega arith)

-- the range at that place, if it begins there, is the first of them
find-here : (ranges : List Range) (b i : ℕ) (d : Range) → IsPlace ranges b i → i < length ranges → (get_or ranges i d).begin ≡ b → find (begins_at b) ranges ≡ Some (get_or ranges i d)
find-here ranges b i d place within here =
    find-at (begins_at b) ranges i d within (λ k below. lower-differs (get_or ranges k d).begin b (place.0 k d (omega arith) below)) (eq-eqb _ _ here)

-- and if it does not, or there is none at that place, no range does
find-past : (ranges : List Range) (b i : ℕ) → IsPlace ranges b i → length ranges ≤ i → find (begins_at b) ranges ≡ None
find-past ranges b i place past =
    find-none (begins_at b) ranges (list_any_none (begins_at b) ranges (λ k d below. lower-differs (get_or ranges k d).begin b (place.0 k d (omega arith) (omega arith))))

find-other : (ranges : List Range) (b i : ℕ) (d : Range) → IsNonDecreasingBy (λ r. r.begin) ranges → IsPlace ranges b i → i < length ranges → ((get_or ranges i d).begin ≡ b → ⊥) → find (begins_at b) ranges ≡ None
find-other ranges b i d rises place within other =
    find-none (begins_at b) ranges (list_any_none (begins_at b) ranges (λ k e below. elim (cases_lt k i) [
      | inl before ↦ lower-differs (get_or ranges k e).begin b (place.0 k e (omega arith) before)
      | inr after ↦
          let here : b ≤ (get_or ranges i d).begin = ltb-false (get_or ranges i d).begin b (place.1 i d (omega arith) within) in
          let more : (get_or ranges i d).begin ≤ (get_or ranges k d).begin = rises i k d after below in
          let same : (get_or ranges k e).begin ≡ (get_or ranges k d).begin = ap (λ (r : Range). r.begin) (get_or_default ranges k e d below) in
          differs (get_or ranges k e).begin b (λ is. other (omega arith))
    ]))

-- what the search answers, by what stands at that place
pub find-first : (ranges : List Range) (b i : ℕ) (o : Option (Bor Range)) → IsNonDecreasingBy (λ r. r.begin) ranges → IsPlace ranges b i → IsItemAt ranges i o → MatchOption o (find (begins_at b) ranges ≡ None) (λ r. find (begins_at b) ranges ≡ cond (begins_at b r.now) (Some r.now) None)
find-first ranges b i None rises place at = find-past ranges b i place at.3
find-first ranges b i (Some r) rises place at =
    let within = at.3.0 in
    let is : r.now ≡ get_or ranges i r.now = at.1 in
    elim (cases_eq r.now.begin b) [
      | inl here ↦ rw (eq-eqb r.now.begin b here) (find-here ranges b i r.now place within (ap (λ (s : Range). s.begin) (sym is) ∙ here) ∙ ap Some (sym is))
      | inr other ↦ rw (differs r.now.begin b other) (find-other ranges b i r.now rises place within (λ e. other (ap (λ (s : Range). s.begin) is ∙ e)))
    ]

-- a stable sort keeps the first range of each beginning
pub find-stable : (ranges kept : List Range) → IsStableByKey (λ (r : Range). r.begin) nat_cmp ranges kept → (b : ℕ) → find (begins_at b) kept ≡ find (begins_at b) ranges
find-stable ranges kept stable b =
    let r : Range = record { begin = b; len = 0; pad = 0 } in
    find-tied b kept ∙ ap (find (λ s. true)) (stable r) ∙ sym (find-tied b ranges)
  where
    ties_begin : (a b : ℕ) → (not (is_lt (nat_cmp a b)) && not (is_lt (nat_cmp b a))) ≡ eqb b a
    ties_begin a b = grind (arith, nat_tests)

    find-tied : (b : ℕ) (rs : List Range) → find (begins_at b) rs ≡ find (λ s. true) (filter (ties (λ (x y : Range). is_lt (nat_cmp x.begin y.begin)) (record { begin = b; len = 0; pad = 0 })) rs)
    find-tied b [] = refl
    find-tied b (s ∷ ss) = elim (cases_Bool (eqb s.begin b)) [
      | inl here ↦ rw (ties_begin b s.begin, here) refl
      | inr other ↦ rw (ties_begin b s.begin, other) (find-tied b ss)
    ]

-- some range begins at x
abbrev pub Begins : List Range → ℕ → Type 0
Begins rs x = list_any (begins_at x) rs ≡ true

-- g is the greatest beginning at b or lower; there is none
pub record IsGreatest (b : ℕ) (rs : List Range) (g : ℕ) : Type 0 where
  pub there : Begins rs g
  pub low : g ≤ b
  pub most : (x : ℕ) → Begins rs x → x ≤ b → x ≤ g

abbrev pub AllAbove : ℕ → List Range → Type 0
AllAbove b rs = (x : ℕ) → Begins rs x → b < x

or_cases : (s t : Bool) → (s || t) ≡ true → (s ≡ true) ⊎ (t ≡ true)
or_cases true t h = inl refl
or_cases false t h = inr h

or_right : (s t : Bool) → t ≡ true → (s || t) ≡ true
or_right true t h = refl
or_right false t h = h

leb-true : (a b : ℕ) → a ≤ b → leb a b ≡ true
leb-true a b h = grind (arith, nat_tests)

leb-false : (a b : ℕ) → b < a → leb a b ≡ false
leb-false a b h = grind (arith, nat_tests)

module _ (b : ℕ) where
  -- what the greatest is, with one more range
  above-more : (r : Range) (rs : List Range) → b < r.begin → AllAbove b rs → AllAbove b (r ∷ rs)
  above-more r rs high above x there = elim (or_cases (eqb r.begin x) (list_any (begins_at x) rs) there) [
    | inl same ↦ let e = eqb-true r.begin x same in omega arith
    | inr later ↦ above x later
  ]

  pass-more : (r : Range) (rs : List Range) (g : ℕ) → b < r.begin → IsGreatest b rs g → IsGreatest b (r ∷ rs) g
  pass-more r rs g high is = record {
    there = or_right (eqb r.begin g) (list_any (begins_at g) rs) is.there;
    low = is.low;
    most = λ x there low. elim (or_cases (eqb r.begin x) (list_any (begins_at x) rs) there) [
      | inl same ↦ let e = eqb-true r.begin x same in omega arith
      | inr later ↦ is.most x later low
    ];
  }

  first-more : (r : Range) (rs : List Range) → r.begin ≤ b → AllAbove b rs → IsGreatest b (r ∷ rs) r.begin
  first-more r rs low above = record {
    there = ap (λ t. t || list_any (begins_at r.begin) rs) (eq-eqb r.begin r.begin refl);
    low = low;
    most = λ x there below. elim (or_cases (eqb r.begin x) (list_any (begins_at x) rs) there) [
      | inl same ↦ let e = eqb-true r.begin x same in omega arith
      | inr later ↦ let h = above x later in omega arith
    ];
  }

  max-more : (r : Range) (rs : List Range) (g : ℕ) → r.begin ≤ b → IsGreatest b rs g → IsGreatest b (r ∷ rs) (max r.begin g)
  max-more r rs g low is = record {
    there = elim (cases_lt r.begin g) [
      | inl less ↦
          let e : max r.begin g ≡ g = omega arith in
          ap (λ n. list_any (begins_at n) (r ∷ rs)) e ∙ or_right (eqb r.begin g) (list_any (begins_at g) rs) is.there
      | inr more ↦
          let e : max r.begin g ≡ r.begin = omega arith in
          ap (λ n. list_any (begins_at n) (r ∷ rs)) e ∙ ap (λ t. t || list_any (begins_at r.begin) rs) (eq-eqb r.begin r.begin refl)
    ];
    low = let h = is.low in omega arith;
    most = λ x there below. elim (or_cases (eqb r.begin x) (list_any (begins_at x) rs) there) [
      | inl same ↦ let e = eqb-true r.begin x same in omega arith
      | inr later ↦ let h = is.most x later below in omega arith
    ];
  }

  pub greatest-cases : (rs : List Range) → ((greatest b (map (λ (r : Range). r.begin) rs) ≡ None) × AllAbove b rs) ⊎ ((g : ℕ) × (greatest b (map (λ (r : Range). r.begin) rs) ≡ Some g) × IsGreatest b rs g)
  greatest-cases [] = inl (refl, λ x there. absurd (both_ways false refl there))
  greatest-cases (r ∷ rs) = elim (cases_lt b r.begin) [
    | inl high ↦ elim (greatest-cases rs) [
      | inl none ↦ inl (rw (leb-false r.begin b high) none.0, above-more r rs high none.1)
      | inr it ↦ inr (it.0, rw (leb-false r.begin b high) it.1, pass-more r rs it.0 high it.2)
    ]
    | inr low ↦ elim (greatest-cases rs) [
      | inl none ↦ inr (r.begin, rw (leb-true r.begin b low, none.0) refl, first-more r rs low none.1)
      | inr it ↦ inr (max r.begin it.0, rw (leb-true r.begin b low, it.1) refl, max-more r rs it.0 low it.2)
    ]
  ]

  -- the nearest range, by what the greatest beginning is
  pub nearest-none : (rs : List Range) → AllAbove b rs → nearest rs b ≡ None
  nearest-none rs above = elim (greatest-cases rs) [
    | inl none ↦ ap (option_and_then (λ begin. find (begins_at begin) rs)) none.0
    | inr it ↦ let h = above it.0 it.2.there in let l = it.2.low in absurd (omega arith)
  ]

  pub nearest-some : (rs : List Range) (g : ℕ) → IsGreatest b rs g → nearest rs b ≡ find (begins_at g) rs
  nearest-some rs g is = elim (greatest-cases rs) [
    | inl none ↦ let h = none.1 g is.there in let l = is.low in absurd (omega arith)
    | inr it ↦
        let up = is.most it.0 it.2.there it.2.low in
        let down = it.2.most g is.there is.low in
        let same : it.0 ≡ g = omega arith in
        ap (option_and_then (λ begin. find (begins_at begin) rs)) it.1 ∙ ap (λ n. find (begins_at n) rs) same
  ]

  -- lists that find the same have the same nearest range
  pub nearest-same : (ranges kept : List Range) → ((x : ℕ) → find (begins_at x) kept ≡ find (begins_at x) ranges) → nearest kept b ≡ nearest ranges b
  nearest-same ranges kept same = elim (greatest-cases ranges) [
    | inl none ↦ nearest-none kept (λ x there. none.1 x (fro x there)) ∙ sym (nearest-none ranges none.1)
    | inr it ↦
        nearest-some kept it.0 (record { there = to it.0 it.2.there; low = it.2.low; most = λ x there low. it.2.most x (fro x there) low })
        ∙ same it.0 ∙ sym (nearest-some ranges it.0 it.2)
  ]
    where
      both : (x : ℕ) → list_any (begins_at x) kept ≡ list_any (begins_at x) ranges
      both x = sym (is_some-find (begins_at x) kept) ∙ ap is_some (same x) ∙ is_some-find (begins_at x) ranges

      to : (x : ℕ) → Begins ranges x → Begins kept x
      to x there = both x ∙ there

      fro : (x : ℕ) → Begins kept x → Begins ranges x
      fro x there = sym (both x) ∙ there

  -- where a range that begins at x stands
  at_place : (rs : List Range) (x : ℕ) → Begins rs x → (k : ℕ) × (d : Range) × (k < length rs) × ((get_or rs k d).begin ≡ x)
  at_place rs x there = elim (find-cases (begins_at x) rs) [
    | inl none ↦ absurd (both_ways _ none.1 there)
    | inr it ↦ (it.3.0, it.0, it.3.1, ap (λ (r : Range). r.begin) it.3.2 ∙ eqb-true it.0.begin x it.2)
  ]

  -- the last range before the place of b, where they rise, has the greatest beginning
  pub place-none : (rs : List Range) → IsPlaceTo rs b 0 → nearest rs b ≡ None
  place-none rs place = nearest-none rs (λ x there.
      let it = at_place rs x there in
      let high = place.1 it.0 it.1 (omega arith) it.2 in
      let at = it.3 in
      above x (get_or rs it.0 it.1).begin at high)
    where
      above : (x n : ℕ) → n ≡ x → leb n b ≡ false → b < x
      above x n is high = grind (arith, nat_tests)

  pub place-some : (rs : List Range) (i : ℕ) (d : Range) → IsNonDecreasingBy (λ r. r.begin) rs → IsPlaceTo rs b (i + 1) → i < length rs → nearest rs b ≡ find (begins_at (get_or rs i d).begin) rs
  place-some rs i d rises place within = nearest-some rs (get_or rs i d).begin (record {
    there = list_any_at (begins_at (get_or rs i d).begin) rs i d within (eq-eqb _ _ refl);
    low = below (get_or rs i d).begin (place.0 i d (omega arith) (omega arith));
    most = λ x there low.
        let it = at_place rs x there in
        let at = it.3 in
        elim (cases_lt i it.0) [
          | inl after ↦ absurd (outside x (get_or rs it.0 it.1).begin at low (place.1 it.0 it.1 (omega arith) it.2))
          | inr before ↦
              let same : (get_or rs it.0 it.1).begin ≡ (get_or rs it.0 d).begin = ap (λ (r : Range). r.begin) (get_or_default rs it.0 it.1 d it.2) in
              let up : (get_or rs it.0 d).begin ≤ (get_or rs i d).begin = rises it.0 i d before within in
              omega arith
        ];
  })
    where
      below : (n : ℕ) → leb n b ≡ true → n ≤ b
      below n low = grind (arith, nat_tests)

      outside : (x n : ℕ) → n ≡ x → x ≤ b → leb n b ≡ false → ⊥
      outside x n is low high = grind (arith, nat_tests)
