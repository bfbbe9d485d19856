-- An accepted file has one code section at most for each code address.
use Rattle.std.proofs.Common.{◌≡◌, ℕ, suc, zero, ◌+◌, ◌<◌, ◌≤◌, Bool, true, false, List, [], ◌∷◌, get_or, Some, None, refl, sym, ap, ◌∙◌, subst, arith, inl, inr, lit<, max, min}
use Rattle.std.specs.List.{filter, Contains}
use Rattle.std.specs.Option.{option_map}
use Rattle.std.proofs.lemmas.Bool.{cases_Bool, cases_order, both_ways, and_parts, and_from, lt-ltb}
use Rattle.std.proofs.lemmas.List.{get_or_default}
use Rattle.elf_image.specs.declared.section.Section.{Section}
use Rattle.elf_image.specs.declared.fault.Fault.TheVariants.{CodeOverlap}
use Rattle.elf_image.specs.Sections.{sections, is_code_section, holds_bytes}
use Rattle.elf_image.specs.Code.{is_even, is_code_section_of, code_section_of, section_start}
use Rattle.elf_image.specs.FaultTests.{any_pair, shares_address, has_code_overlap}
use Rattle.elf_image.specs.Faults.{has_fault, IsImage}
use Rattle.elf_image.proofs.Finds.{find-cases, any-contained}
use Rattle.elf_image.proofs.Pairs.{any_pair-at}
use Rattle.elf_image.proofs.LaidOut.{no_section, holds-true, holds-from, shares-symmetric}
use Rattle.elf_image.proofs.Accepted.{no_fault}

-- two sections that have the bytes at one address share it
holds-shares : (a n : ℕ) → 0 < n → (s t : Section) → holds_bytes a n s ≡ true → holds_bytes a n t ≡ true → shares_address s t ≡ true
holds-shares a n some s t s_holds t_holds =
    let in_s = holds-true a n s s_holds in
    let in_t = holds-true a n t t_holds in
    lt-ltb (max s.address t.address) (min (s.address + s.size) (t.address + t.size)) (omega arith)

-- an element that passes a filter's test is kept
Contains-filter : (test : Section → Bool) (xs : List Section) (s : Section) → Contains xs s → test s ≡ true → Contains (filter test xs) s
Contains-filter test [] s there passes = absurd (omega (arith, there.1))
Contains-filter test (x ∷ xs) s (zero, within, is) passes =
    let kept : test x ≡ true = ap test is ∙ passes in rw kept (0, omega arith, is)
Contains-filter test (x ∷ xs) s (suc k, within, is) passes =
    let rest = Contains-filter test xs s (k, omega (arith, within), is) passes in
    elim (cases_Bool (test x)) [
      | inl keeps ↦ rw keeps (suc rest.0, omega (arith, rest.1), rest.2)
      | inr drops ↦ rw drops rest
    ]

-- where no two share an address, one alone has the bytes
apart-once : (xs : List Section) → any_pair shares_address xs ≡ false → (a n : ℕ) → 0 < n → (s t : Section) → Contains xs s → Contains xs t → holds_bytes a n s ≡ true → holds_bytes a n t ≡ true → s ≡ t
apart-once xs apart a n some s t s_there t_there s_holds t_holds =
    let i = s_there.0 in
    let j = t_there.0 in
    let is_s : get_or xs i no_section ≡ s = get_or_default xs i no_section s s_there.1 ∙ s_there.2 in
    let is_t : get_or xs j no_section ≡ t = get_or_default xs j no_section t t_there.1 ∙ t_there.2 in
    let i_holds = ap (holds_bytes a n) is_s ∙ s_holds in
    let j_holds = ap (holds_bytes a n) is_t ∙ t_holds in
    let share = holds-shares a n some (get_or xs i no_section) (get_or xs j no_section) i_holds j_holds in
    elim (cases_order i j) [
      | inl same ↦ sym is_s ∙ ap (λ k. get_or xs k no_section) same ∙ is_t
      | inr other ↦ elim other [
        | inl less ↦ absurd (both_ways _ apart (any_pair-at shares_address no_section xs i j less t_there.1 share))
        | inr more ↦ absurd (both_ways _ apart (any_pair-at shares_address no_section xs j i more s_there.1 (shares-symmetric (get_or xs j no_section) (get_or xs i no_section) ∙ share)))
      ]
    ]

-- what is known of the code section of a code address
pub code_section-is : (bytes : List ℕ) (a : ℕ) (s : Section) → code_section_of bytes a ≡ Some s → (is_even a ≡ true) × (is_code_section s ≡ true) × (holds_bytes a 2 s ≡ true) × Contains (sections bytes) s
unfolding code_section_of
code_section-is bytes a s found = elim (cases_Bool (is_even a)) [
  | inl even ↦ elim (find-cases (is_code_section_of a) (sections bytes)) [
    | inl none ↦ absurd (differ (sym none.0 ∙ rw even at found))
    | inr it ↦
        let same : it.0 ≡ s = some_same (sym it.1 ∙ rw even at found) in
        let parts = and_parts (is_code_section s) (holds_bytes a 2 s) (subst (λ t. is_code_section_of a t ≡ true) same it.2) in
        (even, parts.0, parts.1, subst (Contains (sections bytes)) same it.3)
  ]
  | inr odd ↦ absurd (differ (rw odd at found))
]
  where
    differ : {t : Section} → None ≡ Some t → ⊥
    differ e = cc

    some_same : {t u : Section} → Some t ≡ Some u → t ≡ u
    some_same e = cc

-- a code section of an accepted file is that of each code address in it
pub code_section-same : (bytes : List ℕ) → IsImage bytes → (a : ℕ) (s : Section) → Contains (sections bytes) s → is_code_section s ≡ true → is_even a ≡ true → holds_bytes a 2 s ≡ true → code_section_of bytes a ≡ Some s
unfolding code_section_of has_fault has_code_overlap
code_section-same bytes accepted a s there code even holds =
    let passes = and_from (is_code_section s) (holds_bytes a 2 s) code holds in
    let apart = no_fault bytes accepted 16 CodeOverlap (lit< tt) refl in
    elim (find-cases (is_code_section_of a) (sections bytes)) [
      | inl none ↦ absurd (both_ways _ none.1 (any-contained (is_code_section_of a) (sections bytes) s there passes))
      | inr it ↦
          let parts = and_parts (is_code_section it.0) (holds_bytes a 2 it.0) it.2 in
          let same = apart-once (filter is_code_section (sections bytes)) apart a 2 (lit< tt) it.0 s
          (Contains-filter is_code_section (sections bytes) it.0 it.3 parts.0) (Contains-filter is_code_section (sections bytes) s there code)
          parts.1 holds in
          rw even (it.1 ∙ ap Some same)
    ]

-- an even address before a code address, not before its section, has the same section
pub section_start-same : (bytes : List ℕ) → IsImage bytes → (a : ℕ) (s : Section) → code_section_of bytes a ≡ Some s → (b : ℕ) → s.address ≤ b → b ≤ a → is_even b ≡ true → section_start bytes b ≡ Some s.address
section_start-same bytes accepted a s found b after before even =
    let is = code_section-is bytes a s found in
    let held = holds-true a 2 s is.2 in
    let holds = holds-from b 2 s after (omega (arith, held.1)) in
    ap (option_map (λ t. t.address)) (code_section-same bytes accepted b s is.3 is.1 even holds)
