-- Tests of a list that is made from a function of the index.
use Rattle.std.proofs.Common.{◌≡◌, ℕ, ◌+◌, ◌<◌, Bool, true, false, List, [], ◌∷◌, ◌++◌, append_assoc, refl, map, length, get_or, ap, sym, ◌∙◌, arith}
use Rattle.std.specs.List.{range_with_len, list_any, Contains}
use Rattle.std.proofs.lemmas.List.Folds.{list_any_none, list_any_at}
use Rattle.std.proofs.lemmas.List.FromFn.{get_or-map-range_with_len, length-map-range_with_len, map-range_with_len_more}
use Rattle.elf_image.specs.declared.section.Section.{Section}
use Rattle.elf_image.specs.Header.{section_count}
use Rattle.elf_image.specs.Sections.{section, sections}

module _ {X : Type 0} (p : X → Bool) (f : ℕ → X) where
  -- no element passes
  pub any-none : (n : ℕ) → ((k : ℕ) → k < n → p (f k) ≡ false) → list_any p (map f (range_with_len 0 n)) ≡ false
  any-none n h =
      list_any_none p (map f (range_with_len 0 n)) (λ k d below.
      let within : k < n = omega (arith, length-map-range_with_len f 0 n) in
      ap p (get_or-map-range_with_len f 0 n k k d within (omega arith)) ∙ h k within)

  -- one element passes
  pub any-at : (n k : ℕ) → k < n → p (f k) ≡ true → list_any p (map f (range_with_len 0 n)) ≡ true
  any-at n k within h =
      list_any_at p (map f (range_with_len 0 n)) k (f k) (omega (arith, length-map-range_with_len f 0 n))
      (ap p (get_or-map-range_with_len f 0 n k k (f k) within (omega arith)) ∙ h)

-- a loop that pushes the value at each index: one more
pub range-push : {X : Type 0} (f : ℕ → X) (n : ℕ) (xs ys : List X) (x : X) → xs ≡ map f (range_with_len 0 n) → x ≡ f n → ys ≡ xs ++ x ∷ [] → ys ≡ map f (range_with_len 0 (n + 1))
range-push f n xs ys x before here after = after ∙ rw (before, here) (sym (map-range_with_len_more f 0 n n (omega arith)))

-- the same after other elements
pub range-push_after : {X : Type 0} (f : ℕ → X) (n : ℕ) (xs ys zs : List X) (x : X) → ys ≡ xs ++ map f (range_with_len 0 n) → x ≡ f n → zs ≡ ys ++ x ∷ [] → zs ≡ xs ++ map f (range_with_len 0 (n + 1))
range-push_after f n xs ys zs x before here after =
    after ∙ rw before (append_assoc xs (map f (range_with_len 0 n)) (x ∷ []))
    ∙ ap (λ more. xs ++ more) (range-push f n (map f (range_with_len 0 n)) (map f (range_with_len 0 n) ++ x ∷ []) x refl here refl)

-- the sections of a file by their index
pub length-sections : (bytes : List ℕ) → length (sections bytes) ≡ section_count bytes
unfolding sections
length-sections bytes = length-map-range_with_len (section bytes) 0 (section_count bytes)

pub get_or-sections : (bytes : List ℕ) (i : ℕ) (d : Section) → i < section_count bytes → get_or (sections bytes) i d ≡ section bytes i
unfolding sections
get_or-sections bytes i d within = get_or-map-range_with_len (section bytes) 0 (section_count bytes) i i d within (omega arith)

pub Contains-section : (bytes : List ℕ) (i : ℕ) → i < section_count bytes → Contains (sections bytes) (section bytes i)
Contains-section bytes i within = (i, omega (arith, length-sections bytes), get_or-sections bytes i (section bytes i) within)
