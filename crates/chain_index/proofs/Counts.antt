-- The numbers of code addresses: how many lie below an address.
use Rattle.std.proofs.Common.{◌≡◌, ℕ, zero, suc, ◌+◌, ◌-◌, ◌*◌, ◌/◌, ◌%◌, ◌<◌, ◌≤◌, ◌^◌, true, false, List, [], ◌∷◌, ◌++◌, length, get_or, Option, Some, None, is_some, refl, sym, ap, ◌∙◌, subst, arith, inl, inr, if◌then◌else◌}
use Rattle.std.specs.List.{Contains}
use Rattle.std.proofs.lemmas.Bool.{cases_Bool, cases_order, eqb-true, false_from_ne_true}
use Rattle.std.specs.Prelude.{slice_get}
use Rattle.std.proofs.lemmas.List.{get_or_default}
use Rattle.std.proofs.lemmas.Option.{get_or_from_slice_get, none-some}
use Rattle.elf_image.specs.declared.section.Section.{Section}
use Rattle.elf_image.specs.Code.{is_even, is_code, code_section_of}
use Rattle.elf_image.proofs.LaidOut.{holds-true}
use Rattle.elf_image.proofs.OneSection.{code_section-is}
use Rattle.chain_index.specs.declared.lookup.SectionReaches.{SectionReaches}
use Rattle.chain_index.specs.Found.{IsCodeOf, AreFalling, last_count}
use Rattle.chain_index.specs.Inner.{AreFoundBut, AreRight}
use Rattle.chain_index.specs.Numbers.{codes_below, code_count, NumbersRise, NumbersAreBelow}
use Rattle.chain_index.proofs.CodeSections.{code-half, section-at, holds-at}
use Rattle.chain_index.proofs.Ends.{code_below}
use Rattle.chain_index.proofs.Joins.{one_section}

-- a code address is even
pub even_code : (bytes : List ℕ) (a : ℕ) → is_code bytes a ≡ true → is_even a ≡ true
even_code bytes a code = at (code_section_of bytes a) refl code
  where
    at : (o : Option Section) → code_section_of bytes a ≡ o → is_some o ≡ true → is_even a ≡ true
    at None is there = absurd (cc)
    at (Some s) is there = (code_section-is bytes a s is).0

module _ (bytes : List ℕ) where
  below_suc : (a : ℕ) → codes_below bytes (suc a) ≡ codes_below bytes a + (if is_code bytes a then 1 else 0)
  unfolding codes_below
  below_suc a = refl

  below_code : (a : ℕ) → is_code bytes a ≡ true → codes_below bytes (suc a) ≡ codes_below bytes a + 1
  below_code a code = rw code at (below_suc a)

  below_none : (a : ℕ) → is_code bytes a ≡ false → codes_below bytes (suc a) ≡ codes_below bytes a
  below_none a none = let e = rw none at (below_suc a) in omega (arith, e)

  pub below_zero : codes_below bytes 0 ≡ 0
  unfolding codes_below
  below_zero = refl

  -- no code lies in a gap
  gap : (low n : ℕ) → ((x : ℕ) → low ≤ x → x < low + n → is_code bytes x ≡ false) → codes_below bytes (low + n) ≡ codes_below bytes low
  gap low zero none = ap (codes_below bytes) (omega arith)
  gap low (suc n) none =
      let next : low + suc n ≡ suc (low + n) = omega arith in
      ap (codes_below bytes) next
      ∙ below_none (low + n) (none (low + n) (omega arith) (omega arith))
      ∙ gap low n (λ x from below. none x from (omega arith))

  pub no_codes : (low high : ℕ) → low ≤ high → ((x : ℕ) → low ≤ x → x < high → is_code bytes x ≡ false) → codes_below bytes high ≡ codes_below bytes low
  no_codes low high up none =
      let there : high ≡ low + (high - low) = omega arith in
      ap (codes_below bytes) there ∙ gap low (high - low) (λ x from below. none x from (omega arith))

  -- numbers never fall
  never_falls : (a n : ℕ) → codes_below bytes a ≤ codes_below bytes (a + n)
  never_falls a zero = let same : a + 0 ≡ a = omega arith in rw same (omega arith)
  never_falls a (suc n) =
      let next : a + suc n ≡ suc (a + n) = omega arith in
      let before = never_falls a n in
      let more = below_suc (a + n) in
      rw next (omega (arith, before, more))

  pub rises : (a b : ℕ) → is_code bytes a ≡ true → a < b → codes_below bytes a < codes_below bytes b
  rises a b code up =
      let there : suc a + (b - suc a) ≡ b = omega arith in
      let more = never_falls (suc a) (b - suc a) in
      let to : codes_below bytes (suc a) ≤ codes_below bytes b = subst (λ c. codes_below bytes (suc a) ≤ codes_below bytes c) there more in
      omega (arith, to, below_code a code)

-- each number below how many codes lie below an address is that of a code address
pub code_numbered : (bytes : List ℕ) (n a : ℕ) → n < codes_below bytes a → (b : ℕ) × (is_code bytes b ≡ true) × (n ≡ codes_below bytes b)
code_numbered bytes n zero less = absurd (omega (arith, less, below_zero bytes))
code_numbered bytes n (suc a) less = elim (cases_order n (codes_below bytes a)) [
  | inl same ↦ elim (cases_Bool (is_code bytes a)) [
    | inl code ↦ (a, code, same)
    | inr none ↦ absurd (omega (arith, less, below_none bytes a none, same))
  ]
  | inr other ↦ elim other [
    | inl before ↦ code_numbered bytes n a before
    | inr behind ↦ elim (cases_Bool (is_code bytes a)) [
      | inl code ↦ absurd (omega (arith, less, below_code bytes a code, behind))
      | inr none ↦ absurd (omega (arith, less, below_none bytes a none, behind))
    ]
  ]
]

pub numbers_rise : NumbersRise
numbers_rise bytes a b code up = rises bytes a b code up

pub numbers_are_below : NumbersAreBelow
unfolding code_count
numbers_are_below bytes a accepted code = rises bytes a (2 ^ 64) code (code_below bytes accepted a code)

-- the halfwords of a section are numbered one after another
module _ (bytes : List ℕ) (s : Section) (of : IsCodeOf bytes s) where
  pub in_section : (i : ℕ) → 2 * i ≤ s.size → codes_below bytes (s.address + 2 * i) ≡ codes_below bytes s.address + i
  in_section zero within = let same : s.address + 2 * 0 ≡ s.address = omega arith in ap (codes_below bytes) same ∙ omega arith
  in_section (suc i) within =
      let a : ℕ = s.address + 2 * i in
      let next : s.address + 2 * suc i ≡ suc (suc a) = omega arith in
      let here : is_code bytes a ≡ true = code-half bytes s of i (omega arith) in
      let a_even : a % 2 ≡ 0 = eqb-true (a % 2) 0 (even_code bytes a here) in
      let odd : is_code bytes (suc a) ≡ false = false_from_ne_true (is_code bytes (suc a)) (λ code.
      let even : suc a % 2 ≡ 0 = eqb-true (suc a % 2) 0 (even_code bytes (suc a) code) in absurd (omega arith)) in
      let two = below_none bytes (suc a) odd in
      let one = below_code bytes a here in
      let before = in_section i (omega arith) in
      ap (codes_below bytes) next ∙ omega (arith, two, one, before)

  -- another code section that holds an address behind its last halfword does not begin before
  pub not_before : (t : Section) → IsCodeOf bytes t → t.address ≤ s.address → (x : ℕ) → s.address + 2 * (s.size / 2) ≤ x → is_even x ≡ true → x + 2 ≤ t.address + t.size → ⊥
  not_before t t_of low x behind even within =
      let t_at = t_of.whole s.address of.even (holds-at s.address t low (omega arith)) in
      let s_at = of.whole s.address of.even (holds-at s.address s (omega arith) (omega (arith, of.some))) in
      let one : s ≡ t = one_section (sym s_at ∙ t_at) in
      let start : s.address ≡ t.address = ap (λ (u : Section). u.address) one in
      let size : s.size ≡ t.size = ap (λ (u : Section). u.size) one in
      let x_even : x % 2 ≡ 0 = eqb-true (x % 2) 0 even in
      let s_even : s.address % 2 ≡ 0 = eqb-true (s.address % 2) 0 of.even in
      absurd (omega arith)

  -- one that begins above it begins behind its last halfword
  pub begins_after : (t : Section) → IsCodeOf bytes t → s.address < t.address → s.address + 2 * (s.size / 2) ≤ t.address
  begins_after t t_of up = elim (cases_order t.address (s.address + 2 * (s.size / 2))) [
    | inl same ↦ omega arith
    | inr other ↦ elim other [
      | inl less ↦
          let s_even : s.address % 2 ≡ 0 = eqb-true (s.address % 2) 0 of.even in
          let t_even : t.address % 2 ≡ 0 = eqb-true (t.address % 2) 0 t_of.even in
          let s_at = of.whole t.address t_of.even (holds-at t.address s (omega arith) (omega arith)) in
          let t_at = t_of.whole t.address t_of.even (holds-at t.address t (omega arith) (omega (arith, t_of.some))) in
          let one : s ≡ t = one_section (sym s_at ∙ t_at) in
          let start : s.address ≡ t.address = ap (λ (u : Section). u.address) one in
          absurd (omega arith)
      | inr more ↦ omega arith
    ]
  ]

-- An address below all sections that are found is no code, where none of those left holds it.
pub none_there : (bytes : List ℕ) (left : List Section) (found : List SectionReaches) → AreFoundBut bytes left found → (x : ℕ) → ((j : ℕ) (e : SectionReaches) → j < length found → x < (get_or found j e).address)
    → ((u : Section) → Contains left u → is_even x ≡ true → u.address ≤ x → x + 2 ≤ u.address + u.size → ⊥) → is_code bytes x ≡ false
none_there bytes left found but x below none = at (code_section_of bytes x) refl
  where
    at : (o : Option Section) → code_section_of bytes x ≡ o → is_some o ≡ false
    at None is = refl
    at (Some u) is =
        let parts = code_section-is bytes x u is in
        let held = holds-true x 2 u parts.2 in
        let place = section-at bytes x u is in
        elim (but place.0 place.1.within place.1.code place.1.some) [
          | inl there ↦ absurd (none u (subst (Contains left) place.1.is there) parts.0 held.0 (omega (arith, held.0, held.1)))
          | inr begins ↦
              let start : (get_or found begins.1.0 begins.0).address ≡ u.address = ap (λ (r : SectionReaches). r.address) begins.1.2 ∙ begins.2 ∙ ap (λ (t : Section). t.address) place.1.is in
              absurd (omega (arith, below begins.1.0 begins.0 begins.1.1, start, held.0))
        ]

-- ---- what the last of a list counts

pub last_count-push : (count : ℕ) (found : List SectionReaches) (kept : SectionReaches) → last_count count (found ++ kept ∷ []) ≡ kept.from
last_count-push count [] kept = refl
last_count-push count (first ∷ more) kept = last_count-push first.from more kept

pub last_count-at : (count : ℕ) (found : List SectionReaches) (d : SectionReaches) (n : ℕ) → length found ≡ suc n → last_count count found ≡ (get_or found n d).from
last_count-at count [] d n size = absurd (omega arith)
last_count-at count (first ∷ []) d zero size = refl
last_count-at count (first ∷ []) d (suc n) size = absurd (omega arith)
last_count-at count (first ∷ second ∷ more) d zero size = absurd (omega arith)
last_count-at count (first ∷ second ∷ more) d (suc n) size = last_count-at first.from (second ∷ more) d n (omega arith)

pub last_count-got : (found : List SectionReaches) (kept : SectionReaches) → slice_get found (length found - 1) ≡ Some kept → last_count 0 found ≡ kept.from
last_count-got [] kept got = absurd (none-some kept got)
last_count-got (first ∷ more) kept got =
    let at : length more ≡ length (first ∷ more) - 1 = omega arith in
    last_count-at 0 (first ∷ more) kept (length more) refl
    ∙ ap (λ n. (get_or (first ∷ more) n kept).from) at
    ∙ ap (λ (r : SectionReaches). r.from) (get_or_from_slice_get (first ∷ more) (length (first ∷ more) - 1) kept kept got)

-- The sections that are found are all that hold code from an address on: so many code addresses lie below
-- it that the last counts the others.
pub counted_from : (bytes : List ℕ) (found : List SectionReaches) → AreRight bytes found → AreFalling found → (low : ℕ) → low ≤ 2 ^ 64 → ((j : ℕ) (e : SectionReaches) → j < length found → low ≤ (get_or found j e).address)
    → ((x : ℕ) → low ≤ x → ((j : ℕ) (e : SectionReaches) → j < length found → x < (get_or found j e).address) → is_code bytes x ≡ false)
    → codes_below bytes low + last_count 0 found ≡ code_count bytes
unfolding code_count
counted_from bytes [] right falling low small above none =
    let same = no_codes bytes low (2 ^ 64) small (λ x from below. none x from (λ j e within. absurd (omega arith))) in
    omega (arith, same)
counted_from bytes (first ∷ more) right falling low small above none =
    let found = first ∷ more in
    let m = length more in
    let t = get_or found m first in
    let least : (j : ℕ) (e : SectionReaches) → j < length found → t.address ≤ (get_or found j e).address =
    λ j e within.
    let is : get_or found m e ≡ t = get_or_default found m e first (omega arith) in
    let same : (get_or found m e).address ≡ t.address = ap (λ (r : SectionReaches). r.address) is in
    omega (arith, same, falling j m e (omega arith) (omega arith)) in
    let same = no_codes bytes low t.address (above m first (omega arith)) (λ x from below. none x from (λ j e within. omega (arith, below, least j e within))) in
    let last = last_count-at 0 found first m refl in
    omega (arith, same, last, (right m first (omega arith)).counted)
