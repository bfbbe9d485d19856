-- The section of the code address with a number.
use Rattle.std.proofs.Common.{◌≡◌, ℕ, ◌+◌, ◌-◌, ◌*◌, ◌/◌, ◌%◌, ◌<◌, ◌≤◌, true, List, length, get_or, ltb, ap, sym, subst, arith, inl, inr}
use Rattle.std.specs.List.Sorted.{IsPartitionedBy}
use Rattle.std.proofs.lemmas.Bool.{cases_order, eqb-true, ltb-true, lt-ltb}
use Rattle.elf_image.specs.Code.{is_code}
use Rattle.chain_index.specs.declared.lookup.SectionReaches.{SectionReaches}
use Rattle.chain_index.specs.Found.{AreChainEndsOf, IsSectionReaches}
use Rattle.chain_index.specs.Numbers.{codes_below, code_count}
use Rattle.chain_index.specs.Inner.{IsCountAbove, IsNumberedIn, IsReachedAt}
use Rattle.chain_index.proofs.CodeSections.{code-half}
use Rattle.chain_index.proofs.Counts.{even_code, in_section, rises}
use Rattle.chain_index.proofs.Looking.{look_within, look, reached}

-- those whose first number lies above come first
pub parted_by_number : (bytes : List ℕ) (found : List SectionReaches) (numbers n : ℕ) → AreChainEndsOf bytes found → IsPartitionedBy (λ (r : SectionReaches). ltb (n + r.from) numbers) found
parted_by_number bytes found numbers n all i j d up below above =
    let high = (all.right i d (omega arith)).counted in
    let low = (all.right j d below).counted in
    let less : codes_below bytes (get_or found j d).address ≤ codes_below bytes (get_or found i d).address = elim (cases_order (get_or found j d).address (get_or found i d).address) [
      | inl same ↦ let is = ap (codes_below bytes) same in omega (arith, is)
      | inr other ↦ elim other [
        | inl down ↦ let rise = rises bytes (get_or found j d).address (get_or found i d).address (all.right j d below).reaches.code down in omega (arith, rise)
        | inr wrong ↦ absurd (omega (arith, wrong, all.falling i j d up below))
      ]
    ] in
    lt-ltb _ _ (omega (arith, ltb-true _ _ above, high, low, less))

module _ (bytes : List ℕ) (found : List SectionReaches) (numbers n a : ℕ) (all : AreChainEndsOf bytes found) (count : numbers ≡ code_count bytes) (code : is_code bytes a ≡ true) (is : n ≡ codes_below bytes a) where
  pub first_above : (i : ℕ) (d : SectionReaches) → i < length found → n + (get_or found i d).from < numbers → a < (get_or found i d).address
  first_above i d within less = elim (cases_order a (get_or found i d).address) [
    | inl same ↦ let at = ap (codes_below bytes) same in absurd (omega (arith, at, is, count, less, (all.right i d within).counted))
    | inr other ↦ elim other [
      | inl up ↦ up
      | inr down ↦ let rise = rises bytes (get_or found i d).address a (all.right i d within).reaches.code down in absurd (omega (arith, rise, is, count, less, (all.right i d within).counted))
    ]
  ]

  pub first_below : (i : ℕ) (d : SectionReaches) → i < length found → numbers ≤ n + (get_or found i d).from → (get_or found i d).address ≤ a
  first_below i d within more = elim (cases_order (get_or found i d).address a) [
    | inl same ↦ omega (arith, same)
    | inr other ↦ elim other [
      | inl down ↦ omega (arith, down)
      | inr up ↦ let rise = rises bytes a (get_or found i d).address code up in absurd (omega (arith, rise, is, count, more, (all.right i d within).counted))
    ]
  ]

-- the address of a number, from the section that holds it
pub address_there : (bytes : List ℕ) (a n numbers : ℕ) (kept : SectionReaches) → numbers ≡ code_count bytes → is_code bytes a ≡ true → n ≡ codes_below bytes a → is_code bytes kept.address ≡ true → IsReachedAt bytes a kept
    → (numbers ≤ n + kept.from) × (kept.address + 2 * (n + kept.from - numbers) ≡ a)
address_there bytes a n numbers kept count code is start at =
    let a_even : a % 2 ≡ 0 = eqb-true (a % 2) 0 (even_code bytes a code) in
    let start_even : kept.address % 2 ≡ 0 = eqb-true (kept.address % 2) 0 (even_code bytes kept.address start) in
    let place : n + kept.from ≡ numbers + (a - kept.address) / 2 = omega (arith, at.number, is, count) in
    (omega (arith, place), omega (arith, place, at.start, a_even, start_even))

-- one number is that of one code address
one_address : (bytes : List ℕ) (a b : ℕ) → is_code bytes a ≡ true → is_code bytes b ≡ true → codes_below bytes a ≡ codes_below bytes b → a ≡ b
one_address bytes a b code other same = elim (cases_order a b) [
  | inl is ↦ is
  | inr apart ↦ elim apart [
    | inl less ↦ absurd (omega (arith, same, rises bytes a b code less))
    | inr more ↦ absurd (omega (arith, same, rises bytes b a other more))
  ]
]

-- a section that has the number is that of its address
pub numbered_there : (bytes : List ℕ) (kept : SectionReaches) (numbers n a : ℕ) → IsSectionReaches bytes kept → numbers ≡ code_count bytes → is_code bytes a ≡ true → n ≡ codes_below bytes a
    → numbers ≤ n + kept.from → n + kept.from - numbers < length kept.reaches.items → IsNumberedIn bytes a kept
numbered_there bytes kept numbers n a right count code is from within =
    let s = right.section in
    let p : ℕ = n + kept.from - numbers in
    let b : ℕ = s.address + 2 * p in
    let inside : 2 * p + 2 ≤ s.size = omega (arith, within, right.size) in
    let b_code : is_code bytes b ≡ true = code-half bytes s right.of p inside in
    let numbered : codes_below bytes b ≡ codes_below bytes s.address + p = in_section bytes s right.of p (omega (arith, inside)) in
    let start : codes_below bytes kept.address ≡ codes_below bytes s.address = ap (codes_below bytes) right.address in
    let same : b ≡ a = one_address bytes b a b_code code (omega (arith, numbered, start, right.counted, count, is, from)) in
    record {
      at = reached bytes a kept code right (omega (arith, same, right.address)) (omega (arith, same, right.address, within));
      first = right.reaches.code;
    }

-- the search by number finds that section
pub kept_there : (bytes : List ℕ) (found : List SectionReaches) (a : ℕ) → AreChainEndsOf bytes found → is_code bytes a ≡ true → (place : ℕ) → IsCountAbove found a place → (kept : SectionReaches) → kept ≡ get_or found place kept → IsNumberedIn bytes a kept
kept_there bytes found a all code place counted kept got =
    let within : place < length found = look_within bytes found all a code place counted in
    record {
      at = subst (IsReachedAt bytes a) (sym got) (look bytes found all a code place counted kept);
      first = subst (λ (k : SectionReaches). is_code bytes k.address ≡ true) (sym got) (all.right place kept within).reaches.code;
    }
