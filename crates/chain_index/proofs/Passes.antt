-- A pass over a stretch of a code section, from the back.
use Rattle.std.proofs.Common.{◌≡◌, ℕ, ◌+◌, ◌*◌, ◌/◌, ◌<◌, ◌≤◌, ◌⊎◌, ◌^◌, List, length, get_or, set, take, drop, Option, Some, None, true, refl, sym, ap, ◌∙◌, subst, arith, inl, inr}
use Rattle.std.specs.Prelude.{IfSome}
use Rattle.std.specs.Option.{option_map_or}
use Rattle.std.proofs.lemmas.Bool.{cases_order}
use Rattle.std.proofs.lemmas.List.{length-set, get_or-set_same, get_or-set_other}
use Rattle.elf_image.specs.declared.section.Section.{Section}
use Rattle.elf_image.specs.declared.extensions.Extensions.{Extensions}
use Rattle.elf_image.specs.Architecture.{extensions_of}
use Rattle.elf_image.specs.Number.{u16_at}
use Rattle.elf_image.specs.Code.{is_code}
use Rattle.rv_flow.specs.Straight.{IsStraightLength, straight_length_at}
use Rattle.chain_index.specs.Found.{IsCodeOf, AreReaches}
use Rattle.chain_index.specs.Inner.{Reaches, ReachesFrom, IsReach, reach_over, word_of}
use Rattle.chain_index.proofs.CodeSections.{code-half}
use Rattle.chain_index.proofs.Spans.{half-code, word-code, length-code}
use Rattle.chain_index.proofs.Ends.{reach_is}

-- The length of the instruction at halfword i of these bytes, where control goes straight on behind it:
-- 2, or 4 where all its bytes are there.
pub record IsLengthAt (e : Extensions) (code : List ℕ) (i : ℕ) (n : Option ℕ) : Type 0 where
  pub answer : IsStraightLength e (u16_at code (2 * i)) (word_of code (2 * i)) n
  pub sizes : IfSome n (λ k. (k ≡ 2) ⊎ ((k ≡ 4) × (2 * i + 4 ≤ length code)))

-- the answer for an instruction of 2 bytes or 4
pub short_or_long : (n : Option ℕ) (P : Type 0) → IfSome n (λ k. (k ≡ 2) ⊎ ((k ≡ 4) × P)) → IfSome n (λ k. (k ≡ 2) ⊎ (k ≡ 4))
short_or_long None P sizes = tt
short_or_long (Some k) P (inl two) = inl two
short_or_long (Some k) P (inr four) = inr four.0

long_within : (n : Option ℕ) (P : Type 0) → IfSome n (λ k. (k ≡ 2) ⊎ ((k ≡ 4) × P)) → n ≡ Some 4 → P
long_within None P sizes is = absurd (cc)
long_within (Some k) P (inl two) is = let four : k ≡ 4 = cc in absurd (omega arith)
long_within (Some k) P (inr four) is = four.1

-- the number of the end of a chain fits where those of the chains behind do
fits_behind : (i m : ℕ) (o : Option ℕ) → i < 2 ^ 32 → IfSome o (λ r. i + m + r < 2 ^ 32) → i + option_map_or (λ r. r + m) o 0 < 2 ^ 32
fits_behind i m None low fits = omega arith
fits_behind i m (Some r) low fits = omega arith

fits_over : (i : ℕ) (n near far : Option ℕ) → i < 2 ^ 32 → IfSome n (λ k. (k ≡ 2) ⊎ (k ≡ 4)) → (n ≡ Some 2 → IfSome near (λ r. i + 1 + r < 2 ^ 32)) → (n ≡ Some 4 → IfSome far (λ r. i + 2 + r < 2 ^ 32)) → i + reach_over n near far < 2 ^ 32
fits_over i None near far low sizes short long = omega arith
fits_over i (Some n) near far low (inl two) short long = subst (λ k. i + reach_over (Some k) near far < 2 ^ 32) (sym two) (fits_behind i 1 near low (short (ap Some two)))
fits_over i (Some n) near far low (inr four) short long = subst (λ k. i + reach_over (Some k) near far < 2 ^ 32) (sym four) (fits_behind i 2 far low (long (ap Some four)))

module _ (bytes : List ℕ) (s : Section) (of : IsCodeOf bytes s) where
  abbrev code : List ℕ
  code = take s.size (drop s.offset bytes)

  -- the length that the bytes tell is that at the address
  pub length_is : (i : ℕ) (n : Option ℕ) → i < s.size / 2 → IsLengthAt (extensions_of bytes) code i n → straight_length_at bytes (s.address + 2 * i) ≡ n
  length_is i n inside is_length =
      let within : 2 * i + 2 ≤ s.size = omega arith in
      is_length.answer bytes (s.address + 2 * i) refl (half-code bytes s of i within) (word-code bytes s of i within)

  -- a long instruction lies in the section whole
  pub long_inside : (i : ℕ) (n : Option ℕ) → IsLengthAt (extensions_of bytes) code i n → n ≡ Some 4 → i + 2 ≤ s.size / 2
  long_inside i n is_length four =
      let fits = long_within n _ is_length.sizes four in omega (arith, fits, length-code bytes s of)

  -- how far the chain of a halfword reaches, from how far those of the halfwords behind it do
  pub over_first : (i : ℕ) (n near far : Option ℕ) → i < s.size / 2 → IsLengthAt (extensions_of bytes) code i n → (n ≡ Some 2 → ReachesFrom bytes s (i + 1) near) → (n ≡ Some 4 → ReachesFrom bytes s (i + 2) far) → IsReach bytes s i (reach_over n near far)
  over_first i n near far inside is_length short long =
      let sizes = short_or_long n _ is_length.sizes in
      let near_at : s.address + 2 * (i + 1) ≡ s.address + 2 * i + 2 = omega arith in
      let far_at : s.address + 2 * (i + 2) ≡ s.address + 2 * i + 4 = omega arith in
      let in_file = of.in_file in
      let small = of.small in
      record {
        end = reach_is bytes (s.address + 2 * i) n near far (length_is i n inside is_length) sizes
            (λ two. subst (λ a. Reaches bytes a near) near_at (short two).reaches)
            (λ four. subst (λ a. Reaches bytes a far) far_at (long four).reaches);
        fits = fits_over i n near far (omega (arith, in_file, small)) sizes (λ two. (short two).fits) (λ four. (long four).fits);
      }

  -- the chain of one of the section's halfwords
  pub from_half : (i reach : ℕ) → i < s.size / 2 → IsReach bytes s i reach → ReachesFrom bytes s i (Some reach)
  from_half i reach inside is = record { reaches = (code-half bytes s of i (omega arith), is.end); fits = is.fits }

  -- the reaches of all halfwords
  pub all_passed : (reaches : List ℕ) → length reaches ≡ s.size / 2 → ((i d : ℕ) → i < length reaches → IsReach bytes s i (get_or reaches i d)) → AreReaches bytes s.address reaches
  all_passed reaches size all = record {
    some = omega (arith, size, of.some);
    code = subst (λ a. is_code bytes a ≡ true) (omega arith) (code-half bytes s of 0 (omega (arith, of.some)));
    ends = λ i d below. (all i d below).end;
  }

-- The halfwords of a stretch from its number k on are passed; near and far are how far the chains of the
-- one there and of the one behind it reach. The stretch begins at the section's halfword from.
pub record IsPassed (bytes : List ℕ) (s : Section) (from k : ℕ) (near far : Option ℕ) (part : List ℕ) : Type 0 where
  pub near_is : from + k ≤ s.size / 2 → ReachesFrom bytes s (from + k) near
  pub far_is : from + k + 1 ≤ s.size / 2 → ReachesFrom bytes s (from + k + 1) far
  pub passed : (j d : ℕ) → k ≤ j → j < length part → IsReach bytes s (from + j) (get_or part j d)

-- one more place of a list, in front of those of which something is known
set_more : (P : ℕ → ℕ → Type 0) (xs : List ℕ) (k x : ℕ) → P k x → ((j d : ℕ) → k + 1 ≤ j → j < length xs → P j (get_or xs j d))
    → (j d : ℕ) → k ≤ j → j < length (set xs k x) → P j (get_or (set xs k x) j d)
set_more P xs k x here before j d from below =
    let size = length-set xs k x in
    elim (cases_order j k) [
      | inl same ↦
          let value : get_or (set xs k x) j d ≡ x = ap (λ i. get_or (set xs k x) i d) same ∙ get_or-set_same xs k x d (omega arith) in
          subst (P j) (sym value) (subst (λ i. P i x) (sym same) here)
      | inr other ↦ elim other [
        | inl less ↦ absurd (omega arith)
        | inr more ↦
            let value : get_or (set xs k x) j d ≡ get_or xs j d = get_or-set_other xs k j x d (omega arith) in
            subst (P j) (sym value) (before j d (omega arith) (omega arith))
      ]
    ]

module _ (bytes : List ℕ) (s : Section) (of : IsCodeOf bytes s) (from k : ℕ) (near far : Option ℕ) (part : List ℕ)
    (so_far : IsPassed bytes s from (k + 1) near far part)
    (inside : from + k < s.size / 2)
    (n : Option ℕ)
    (is_length : IsLengthAt (extensions_of bytes) (take s.size (drop s.offset bytes)) (from + k) n) where
  pub reach_here : IsReach bytes s (from + k) (reach_over n near far)
  reach_here =
      over_first bytes s of (from + k) n near far inside is_length
      (λ two. subst (λ i. ReachesFrom bytes s i near) (omega arith) (so_far.near_is (omega arith)))
      (λ four. let within = long_inside bytes s of (from + k) n is_length four in subst (λ i. ReachesFrom bytes s i far) (omega arith) (so_far.far_is (omega arith)))

  pub pass_step : (reach : ℕ) → reach ≡ reach_over n near far → IsPassed bytes s from k (Some reach) near (set part k reach)
  pass_step reach is =
      let here : IsReach bytes s (from + k) reach = subst (IsReach bytes s (from + k)) (sym is) reach_here in
      record {
        near_is = λ below. from_half bytes s of (from + k) reach inside here;
        far_is = λ below. subst (λ i. ReachesFrom bytes s i near) (omega arith) (so_far.near_is (omega arith));
        passed = set_more (λ j. IsReach bytes s (from + j)) part k reach here so_far.passed;
      }
