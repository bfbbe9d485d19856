-- Blocks that are cut by ranges of numbers, put together.
use Rattle.std.proofs.Common.{◌≡◌, ◌⊎◌, ℕ, suc, ◌+◌, ◌*◌, ◌<◌, ◌≤◌, Bool, List, [], ◌∷◌, ◌++◌, length, get_or, Option, Some, None, IsSome, refl, ap, ◌∙◌, subst, inl, inr, arith}
use Rattle.std.specs.Prelude.{◌↔◌, Contains}
use Rattle.std.proofs.lemmas.Bool.{cases_lt, cases_order}
use Rattle.std.proofs.lemmas.List.{get_or_default, length-append}
use Rattle.std.proofs.lemmas.List.Elements.{Contains-append_cases, Contains-append_left, Contains-append_right, Contains-get_or}
use Rattle.std.proofs.lemmas.List.Kept.{AllPairs-from_increasing}
use native.Mathlib.Nat.{suc-mul, zero-mul}
use Rattle.cfg_model.specs.Program.Instructions.{InstructionMap}
use Rattle.cfg_model.specs.Graph.Block.{IsLastOf}
use Rattle.numbered.specs.Numbering.{IsFirstMarked, IsMarked, NumbersRise}
use Rattle.reached_graph.specs.declared.leaders.Leaders.{Leaders}
use Rattle.reached_graph.specs.Inner.Cuts.{AreCutIn, AreFollowed, IsNext}
use Rattle.reached_graph.specs.Inner.Leaders.{AreMarkedBlocks}
use Rattle.reached_graph.specs.Inner.Overlaps.{lasts_of, starts_of}
use Rattle.reached_graph.specs.Inner.Parts.{AreCutByRange}
use Rattle.reached_graph.proofs.Cutting.{last_same}
use Rattle.reached_graph.proofs.Merging.{Rises, increasing, rises_both}
use Rattle.reached_graph.proofs.Together.{both_each}

module _ (map : InstructionMap) (number : ℕ → ℕ) where
  -- the range of all numbers
  pub cut_all : (IsCut : ℕ → Type 0) (until : ℕ) (starts lasts : List ℕ) → ((a : ℕ) → IsCut a → number a < until) → AreCutIn map number IsCut 0 until starts lasts → AreMarkedBlocks map IsCut starts lasts
  cut_all IsCut until starts lasts low are = record {
    rise = are.rise;
    exact = λ a. (λ there. ((are.exact a).0 there).0, λ is. (are.exact a).1 (is, omega arith, low a is));
    cut = are.cut;
  }

  -- the same cuts in other words
  pub cut_same : (IsCut Other : ℕ → Type 0) → ((a : ℕ) → IsCut a ↔ Other a) → (from until : ℕ) (starts lasts : List ℕ) → AreCutIn map number IsCut from until starts lasts → AreCutIn map number Other from until starts lasts
  cut_same IsCut Other same from until starts lasts are = record {
    rise = are.rise;
    exact = λ a. (λ there. let is = (are.exact a).0 there in ((same a).0 is.0, is.1, is.2), λ is. (are.exact a).1 ((same a).1 is.0, is.1, is.2));
    cut = record {
      as_many = are.cut.as_many;
      each = λ i d within. last_same map IsCut Other (λ a is. (same a).0 is) (λ a is. (same a).1 is) (get_or starts i d) (get_or lasts i d) (are.cut.each i d within);
    };
  }

  -- no number is in an empty range
  pub cut_none : (IsCut : ℕ → Type 0) (from : ℕ) → AreCutIn map number IsCut from from [] []
  cut_none IsCut from = record {
    rise = λ k within. absurd (omega (arith, within));
    exact = λ a. (λ there. absurd (omega (arith, there.1)), λ is. absurd (omega (arith, is.1, is.2)));
    cut = record { as_many = refl; each = λ i d within. absurd (omega (arith, within)) };
  }

  module _ (rises : NumbersRise map number) where
    lower : (a b : ℕ) → IsSome (map a) → IsSome (map b) → number a < number b → a < b
    lower a b has other less = elim (cases_order a b) [
      | inl same ↦ absurd (omega (arith, ap number same, less))
      | inr rest ↦ elim rest [
        | inl below ↦ below
        | inr above ↦ absurd (omega (arith, rises.rise b a other has above, less))
      ]
    ]

    module _ (IsCut : ℕ → Type 0) (stands : (a : ℕ) → IsCut a → IsSome (map a)) where
      -- two ranges side by side
      module _ (from mid until : ℕ) (first : from ≤ mid) (second : mid ≤ until) (xs ks zs ls : List ℕ) (one : AreCutIn map number IsCut from mid xs ks) (other : AreCutIn map number IsCut mid until zs ls) where
        pub ranges_below : (x z : ℕ) → Contains xs x → Contains zs z → x < z
        ranges_below x z there then =
            let is = (one.exact x).0 there in
            let too = (other.exact z).0 then in
            lower x z (stands x is.0) (stands z too.0) (omega (arith, is.2, too.1))

        pub cut_both : AreCutIn map number IsCut from until (xs ++ zs) (ks ++ ls)
        cut_both = record {
          rise = increasing (xs ++ zs) (rises_both xs zs (AllPairs-from_increasing xs one.rise) (AllPairs-from_increasing zs other.rise) ranges_below);
          exact = λ a. (
            λ there. elim (Contains-append_cases xs zs a there) [
              | inl left ↦ let is = (one.exact a).0 left in (is.0, is.1, omega (arith, is.2, second))
              | inr right ↦ let is = (other.exact a).0 right in (is.0, omega (arith, is.1, first), is.2)
            ],
            λ is. elim (cases_lt (number a) mid) [
              | inl less ↦ Contains-append_left xs zs a ((one.exact a).1 (is.0, is.1, less))
              | inr past ↦ Contains-append_right xs zs a ((other.exact a).1 (is.0, past, is.2))
            ],
          );
          cut = record {
            as_many = omega (arith, one.cut.as_many, other.cut.as_many, length-append xs zs, length-append ks ls);
            each = λ i d within. both_each (IsLastOf map IsCut) xs zs ks ls one.cut.as_many d d (λ k inside. one.cut.each k d inside) (λ k inside. other.cut.each k d inside) i within;
          };
        }

      -- ranges of one size, side by side
      cut_ranges : (size : ℕ) (ranges : List Leaders) (from : ℕ)
          → ((n : ℕ) (d : Leaders) → n < length ranges → AreCutIn map number IsCut (from + n * size) (from + n * size + size) (get_or ranges n d).starts.items (get_or ranges n d).lasts.items)
          → AreCutIn map number IsCut from (from + length ranges * size) (starts_of ranges) (lasts_of ranges)
      cut_ranges size [] from each = subst (λ n. AreCutIn map number IsCut from n [] []) (omega (arith, zero-mul size)) (cut_none IsCut from)
      cut_ranges size (range ∷ ranges) from each =
          let first : AreCutIn map number IsCut from (from + size) range.starts.items range.lasts.items =
          subst (λ n. AreCutIn map number IsCut n (n + size) range.starts.items range.lasts.items) (omega (arith, zero-mul size)) (each 0 range (omega arith)) in
          let rest : AreCutIn map number IsCut (from + size) (from + size + length ranges * size) (starts_of ranges) (lasts_of ranges) =
          cut_ranges size ranges (from + size)
          (λ n d within.
          subst (λ m. AreCutIn map number IsCut m (m + size) (get_or ranges n d).starts.items (get_or ranges n d).lasts.items) (omega (arith, suc-mul n size)) (each (suc n) d (omega (arith, within)))) in
          subst (λ n. AreCutIn map number IsCut from n (starts_of (range ∷ ranges)) (lasts_of (range ∷ ranges))) (omega (arith, suc-mul (length ranges) size))
          (cut_both from (from + size) (from + size + length ranges * size) (omega arith) (omega arith) range.starts.items range.lasts.items (starts_of ranges) (lasts_of ranges) first rest)

      -- all of them
      pub blocks_of : (size numbers : ℕ) (ranges : List Leaders) → AreCutByRange map number IsCut size numbers ranges → ((a : ℕ) → IsCut a → number a < numbers) → AreMarkedBlocks map IsCut (starts_of ranges) (lasts_of ranges)
      blocks_of size numbers ranges are low =
          cut_all IsCut (0 + length ranges * size) (starts_of ranges) (lasts_of ranges) (λ a is. omega (arith, low a is, are.all))
          (cut_ranges size ranges 0
          (λ n d within. subst (λ m. AreCutIn map number IsCut m (m + size) (get_or ranges n d).starts.items (get_or ranges n d).lasts.items) (omega arith) (are.each n d within)))

    -- after each start of a range comes the next cut
    module _ (marks : List Bool) (from until : ℕ) (starts : List ℕ) (rise : Rises starts) (exact : (a : ℕ) → Contains starts a ↔ IsMarked map number marks a × (from ≤ number a) × (number a < until)) (behind : Option ℕ)
        (first : 0 < length starts → IsFirstMarked map number marks until behind) where
      abbrev IsOn : ℕ → Type 0
      IsOn = IsMarked map number marks

      is_on : (i : ℕ) → i < length starts → IsOn (get_or starts i 0) × (from ≤ number (get_or starts i 0)) × (number (get_or starts i 0) < until)
      is_on i within = (exact (get_or starts i 0)).0 (Contains-get_or starts i 0 within)

      module _ (i : ℕ) (within : i < length starts) where
        -- a mark above a start of the range is that of a later one, or lies after the range
        above : (x : ℕ) → get_or starts i 0 < x → IsOn x → ((j : ℕ) × (i < j) × (j < length starts) × (get_or starts j 0 ≡ x)) ⊎ (until ≤ number x)
        above x more on = elim (cases_lt (number x) until) [
          | inl less ↦
              let s = is_on i within in
              let there = (exact x).1 (on, omega (arith, s.1, rises.rise (get_or starts i 0) x s.0.0 on.0 more), less) in
              let j : ℕ = there.0 in
              let inside : j < length starts = there.1 in
              let is : get_or starts j 0 ≡ x = get_or_default starts j 0 x inside ∙ there.2 in
              inl (j, after j x more inside is, inside, is)
          | inr past ↦ inr past
        ]
          where
            after : (j x : ℕ) → get_or starts i 0 < x → j < length starts → get_or starts j 0 ≡ x → i < j
            after j x more inside is = elim (cases_order i j) [
              | inl same ↦ absurd (omega (arith, more, is, ap (λ n. get_or starts n 0) same))
              | inr rest ↦ elim rest [
                | inl less ↦ less
                | inr past ↦ absurd (omega (arith, more, is, rise j i 0 past within))
              ]
            ]

        next_inside : i + 1 < length starts → IsNext IsOn (get_or starts i 0) (Some (get_or starts (i + 1) 0))
        next_inside further =
            let t = is_on (i + 1) further in (
              t.0,
              λ x more on. elim (above x more on) [
                | inl at ↦ elim (cases_lt (i + 1) at.0) [
                  | inl later ↦ omega (arith, rise (i + 1) at.0 0 later at.2, at.3)
                  | inr low ↦ omega (arith, at.3, ap (λ n. get_or starts n 0) (the_same at.0 at.1 low))
                ]
                | inr past ↦ omega (arith, lower (get_or starts (i + 1) 0) x t.0.0 on.0 (omega (arith, t.2, past)))
              ],
            )
          where
            the_same : (j : ℕ) → i < j → j ≤ i + 1 → j ≡ i + 1
            the_same j more low = omega (arith, more, low)

        next_behind : i + 1 ≡ length starts → (o : Option ℕ) → IsFirstMarked map number marks until o → IsNext IsOn (get_or starts i 0) o
        next_behind last None none = λ x more on. elim (above x more on) [
          | inl at ↦ omega (arith, at.1, at.2, last)
          | inr past ↦ omega (arith, past, none x on)
        ]
        next_behind last (Some t) is = (
          is.0,
          λ x more on. elim (above x more on) [
            | inl at ↦ absurd (omega (arith, at.1, at.2, last))
            | inr past ↦ elim (cases_lt x t) [
              | inl less ↦ absurd (omega (arith, rises.rise x t on.0 is.0.0 less, is.2 x on past))
              | inr low ↦ low
            ]
          ],
        )

      pub followed : AreFollowed IsOn starts behind
      followed = record {
        each = λ i next within is. elim (cases_lt (i + 1) (length starts)) [
          | inl further ↦ rw (is.inside further) (next_inside i within further)
          | inr past ↦
              let last : i + 1 ≡ length starts = omega (arith, past, within) in
              rw (is.last last) (next_behind i within last behind (first (omega (arith, within))))
        ];
      }
