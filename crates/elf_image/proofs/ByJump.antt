-- Declared tables in the order of their jumps.
use Rattle.std.proofs.Common.{◌≡◌, ℕ, ◌<◌, ◌≤◌, Bool, true, false, List, [], ◌∷◌, ◌&&◌, not, length, get_or, cond, Option, Some, None, eqb, ltb, refl, sym, ap, ◌∙◌, arith, inl, inr}
use Rattle.std.specs.List.{find, filter}
use Rattle.std.specs.List.Sorted.{IsPartitionPoint, IsNonDecreasingBy, IsStableByKey, ties}
use Rattle.std.specs.Borrow.{Bor}
use Rattle.std.specs.Option.{MatchOption}
use Rattle.std.specs.Slice.{IsItemAt}
use Rattle.std.specs.Ordering.{nat_cmp, is_lt}
use Rattle.std.proofs.lemmas.Bool.{cases_Bool, cases_lt, cases_eq, false_from_ne_true, eqb-true, eq-eqb, ltb-true, ltb-false}
use Rattle.std.proofs.lemmas.Bool.Decides.{nat_tests}
use Rattle.std.proofs.lemmas.List.{get_or_default}
use Rattle.std.proofs.lemmas.List.Folds.{list_any_none}
use Rattle.elf_image.specs.declared.declared.DeclaredTable.{DeclaredTable}
use Rattle.elf_image.proofs.Finds.{find-at, find-none}

-- a test of an address
abbrev pub jumps_at : ℕ → DeclaredTable → Bool
jumps_at j t = eqb t.jump j

-- the place that a search by halves finds: before it the jumps are lower
abbrev pub IsPlace : List DeclaredTable → ℕ → ℕ → Type 0
IsPlace tables j i = IsPartitionPoint (λ (t : DeclaredTable). ltb t.jump j ≡ true) (λ t. ltb t.jump j ≡ false) tables i

differs : (a b : ℕ) → (a ≡ b → ⊥) → eqb a b ≡ false
differs a b ne = false_from_ne_true (eqb a b) (λ e. ne (eqb-true a b e))

lower-differs : (a b : ℕ) → ltb a b ≡ true → eqb a b ≡ false
lower-differs a b less = let h = ltb-true a b less in differs a b (λ e. omega arith)

-- the table at that place, if it is of that jump, is the first of it
pub find-here : (tables : List DeclaredTable) (j i : ℕ) (d : DeclaredTable) → IsPlace tables j i → i < length tables → (get_or tables i d).jump ≡ j → find (jumps_at j) tables ≡ Some (get_or tables i d)
find-here tables j i d place within here =
    find-at (jumps_at j) tables i d within (λ k below. lower-differs (get_or tables k d).jump j (place.0 k d (omega arith) below)) (eq-eqb _ _ here)

-- and if it is not, or there is none at that place, no table is of that jump
pub find-past : (tables : List DeclaredTable) (j i : ℕ) → IsPlace tables j i → length tables ≤ i → find (jumps_at j) tables ≡ None
find-past tables j i place past =
    find-none (jumps_at j) tables (list_any_none (jumps_at j) tables (λ k d below. lower-differs (get_or tables k d).jump j (place.0 k d (omega arith) (omega arith))))

pub find-other : (tables : List DeclaredTable) (j i : ℕ) (d : DeclaredTable) → IsNonDecreasingBy (λ t. t.jump) tables → IsPlace tables j i → i < length tables → ((get_or tables i d).jump ≡ j → ⊥) → find (jumps_at j) tables ≡ None
find-other tables j i d rises place within other =
    find-none (jumps_at j) tables (list_any_none (jumps_at j) tables (λ k e below. elim (cases_lt k i) [
      | inl before ↦ lower-differs (get_or tables k e).jump j (place.0 k e (omega arith) before)
      | inr after ↦
          let here : j ≤ (get_or tables i d).jump = ltb-false (get_or tables i d).jump j (place.1 i d (omega arith) within) in
          let more : (get_or tables i d).jump ≤ (get_or tables k d).jump = rises i k d after below in
          let same : (get_or tables k e).jump ≡ (get_or tables k d).jump = ap (λ (t : DeclaredTable). t.jump) (get_or_default tables k e d below) in
          differs (get_or tables k e).jump j (λ is. other (omega arith))
    ]))

-- what the search answers, by what stands at that place
pub find-first : (tables : List DeclaredTable) (j i : ℕ) (o : Option (Bor DeclaredTable)) → IsNonDecreasingBy (λ t. t.jump) tables → IsPlace tables j i → IsItemAt tables i o → MatchOption o (find (jumps_at j) tables ≡ None) (λ t. find (jumps_at j) tables ≡ cond (jumps_at j t.now) (Some t.now) None)
find-first tables j i None rises place at = find-past tables j i place at.3
find-first tables j i (Some t) rises place at =
    let within = at.3.0 in
    let is : t.now ≡ get_or tables i t.now = at.1 in
    elim (cases_eq t.now.jump j) [
      | inl here ↦ rw (eq-eqb t.now.jump j here) (find-here tables j i t.now place within (ap (λ (s : DeclaredTable). s.jump) (sym is) ∙ here) ∙ ap Some (sym is))
      | inr other ↦ rw (differs t.now.jump j other) (find-other tables j i t.now rises place within (λ e. other (ap (λ (s : DeclaredTable). s.jump) is ∙ e)))
    ]

-- a stable sort keeps the first table of each jump
pub find-stable : (tables kept : List DeclaredTable) → IsStableByKey (λ (t : DeclaredTable). t.jump) nat_cmp tables kept → (j : ℕ) → find (jumps_at j) kept ≡ find (jumps_at j) tables
find-stable tables kept stable j =
    let t : DeclaredTable = record { jump = j; base = 0; add = 0; count = 0; size = 0 } in
    find-tied j kept ∙ ap (find (λ s. true)) (stable t) ∙ sym (find-tied j tables)
  where
    ties_jump : (a b : ℕ) → (not (is_lt (nat_cmp a b)) && not (is_lt (nat_cmp b a))) ≡ eqb b a
    ties_jump a b = grind (arith, nat_tests)

    find-tied : (j : ℕ) (ts : List DeclaredTable) → find (jumps_at j) ts ≡ find (λ s. true) (filter (ties (λ (x y : DeclaredTable). is_lt (nat_cmp x.jump y.jump)) (record { jump = j; base = 0; add = 0; count = 0; size = 0 })) ts)
    find-tied j [] = refl
    find-tied j (s ∷ ss) = elim (cases_Bool (eqb s.jump j)) [
      | inl here ↦ rw (ties_jump j s.jump, here) refl
      | inr other ↦ rw (ties_jump j s.jump, other) (find-tied j ss)
    ]
