-- What is found of jumps through a register, one section after the other.
use Rattle.std.proofs.Common.{◌≡◌, ℕ, ◌+◌, ◌-◌, ◌*◌, ◌/◌, ◌%◌, ◌<◌, ◌≤◌, ◌⊎◌, Bool, true, false, List, [], ◌∷◌, ◌++◌, length, get_or, take, drop, Option, Some, None, is_some, IsTrue, IsSome, refl, sym, ap, ◌∙◌, subst, arith, inl, inr}
use Rattle.std.specs.Prelude.{◌↔◌}
use Rattle.std.specs.List.{All, Contains}
use Rattle.std.specs.Option.{option_map, option_map_or}
use Rattle.std.proofs.lemmas.Bool.{cases_Bool, cases_order, both_ways, false≢true, eqb-true}
use Rattle.std.proofs.lemmas.List.{get_or_push, get_or_append_left, get_or_default, length_push}
use Rattle.std.proofs.lemmas.List.Elements.{All-push, All-contains}
use Rattle.elf_image.specs.declared.section.Section.{Section}
use Rattle.elf_image.specs.Header.{section_count}
use Rattle.elf_image.specs.Number.{u16_at}
use Rattle.elf_image.specs.Sections.{section, is_code_section, file_offset}
use Rattle.elf_image.specs.Code.{is_code, code_section_of}
use Rattle.elf_image.proofs.LaidOut.{holds-true}
use Rattle.elf_image.proofs.OneSection.{code_section-is}
use Rattle.chain_index.specs.Found.{IsCodeOf}
use Rattle.chain_index.proofs.CodeSections.{section-at}
use Rattle.chain_index.proofs.Spans.{half-code}
use Rattle.jump_table.specs.Table.{table_at}
use Rattle.code_view.specs.RegisterJump.{is_register_jump, is_register_jump_at, IsBetween, AreRegisterJumps, AreRegisterJumpsBetween}
use Rattle.code_view.specs.Inner.{AreJumpsOfFirst}
use Rattle.code_view.proofs.RegisterJumps.{no-table}

-- ---- a list that gets one more item

still_in : (xs : List ℕ) (b a : ℕ) → Contains xs a → Contains (xs ++ b ∷ []) a
still_in xs b a there = (there.0, omega (arith, there.1, length_push xs b), get_or_append_left xs (b ∷ []) a there.0 there.1 ∙ there.2)

last_in : (xs : List ℕ) (b : ℕ) → Contains (xs ++ b ∷ []) b
last_in xs b = (length xs, omega (arith, length_push xs b), get_or_push xs b b (length xs) refl)

each_of : (P : ℕ → Type 0) (xs : List ℕ) → ((a : ℕ) → Contains xs a → P a) → All P xs
each_of P xs holds k d below = holds (get_or xs k d) (k, below, get_or_default xs k (get_or xs k d) d below)

each_push : (P : ℕ → Type 0) (xs : List ℕ) (b : ℕ) → ((a : ℕ) → Contains xs a → P a) → P b → (a : ℕ) → Contains (xs ++ b ∷ []) a → P a
each_push P xs b holds here a there = All-contains P (xs ++ b ∷ []) a (All-push P xs b (each_of P xs holds) here) there

-- ---- one section

-- Those of the first i sections, and those of a section up to a place.
pub record AreJumpsBefore (bytes : List ℕ) (Among : ℕ → Type 0) (i : ℕ) (s : Section) (place : ℕ) (jumps : List ℕ) : Type 0 where
  pub first : AreJumpsOfFirst bytes Among i jumps
  pub here : (a : ℕ) → code_section_of bytes a ≡ Some s → a < s.address + 2 * place
      → IsTrue (is_register_jump_at bytes a) → Among a → Contains jumps a

-- The places of a section that are looked for are those from one on and before another.
abbrev pub ArePlaces : (ℕ → Type 0) → Section → ℕ → ℕ → Type 0
ArePlaces Among s first end = (place : ℕ) → place < s.size / 2 → Among (s.address + 2 * place) ↔ ((first ≤ place) × (place < end))

-- where a code address stands in its section
record IsPlaceOf (s : Section) (a : ℕ) : Type 0 where
  code : is_code_section s ≡ true
  start : s.address ≤ a
  end : a + 2 ≤ s.address + s.size
  even : a % 2 ≡ 0

place-of : (bytes : List ℕ) (a : ℕ) (s : Section) → code_section_of bytes a ≡ Some s → IsPlaceOf s a
place-of bytes a s found =
    let parts = code_section-is bytes a s found in
    let held = holds-true a 2 s parts.2 in
    record { code = parts.1; start = held.0; end = held.1; even = eqb-true (a % 2) 0 parts.0 }

module _ (bytes : List ℕ) (Among : ℕ → Type 0) (i : ℕ) (s : Section) (of : IsCodeOf bytes s) (first end : ℕ) (places : ArePlaces Among s first end) where
  -- an address of the section that is looked for is that of a place
  place-among : (a : ℕ) → code_section_of bytes a ≡ Some s → Among a → (s.address + 2 * first ≤ a) × (a < s.address + 2 * end)
  place-among a found among =
      let here = place-of bytes a s found in
      let even = eqb-true (s.address % 2) 0 of.even in
      let place = (a - s.address) / 2 in
      let is : a ≡ s.address + 2 * place = omega (arith, here.start, here.even, even) in
      let held = (places place (omega (arith, here.start, here.end, here.even, even))).0 (subst Among is among) in
      (omega (arith, is, held.0), omega (arith, is, held.1))

  -- Before the first place nothing of a section is missed.
  pub before-start : (jumps : List ℕ) → AreJumpsOfFirst bytes Among i jumps → AreJumpsBefore bytes Among i s first jumps
  before-start jumps before = record {
    first = before;
    here = λ a found below _ among. absurd (omega (arith, below, (place-among a found among).0));
  }

  module _ (place : ℕ) (inside : 2 * place + 2 ≤ s.size) where
    -- the address of a halfword that the pass comes to
    abbrev at : ℕ
    at = s.address + 2 * place

    next-at : (a : ℕ) → code_section_of bytes a ≡ Some s → a < s.address + 2 * (place + 1) → (a < at) ⊎ (a ≡ at)
    next-at a found below = elim (cases_order a at) [
      | inl same ↦ inr same
      | inr other ↦ elim other [
        | inl less ↦ inl less
        | inr more ↦
            let here = place-of bytes a s found in
            absurd (omega (arith, here.even, eqb-true (s.address % 2) 0 of.even))
      ]
    ]

    -- what its halfword tells, read of the section's bytes
    abbrev told : Bool
    told = is_register_jump (u16_at (take s.size (drop s.offset bytes)) (2 * place))

    told-at : is_register_jump_at bytes at ≡ told
    told-at = ap (λ o. option_map_or is_register_jump o false) (half-code bytes s of place inside)

    -- One that is a jump is put into the list,
    pub before-found : (jumps : List ℕ) → first ≤ place → place < end → AreJumpsBefore bytes Among i s place jumps → told ≡ true → AreJumpsBefore bytes Among i s (place + 1) (jumps ++ at ∷ [])
    before-found jumps low high before is = record {
      first = record {
        sound = each_push (λ a. IsTrue (is_register_jump_at bytes a) × Among a) jumps at before.first.sound (told-at ∙ is, (places place (omega (arith, inside))).1 (low, high));
        complete = λ j a less found jump among. still_in jumps at a (before.first.complete j a less found jump among);
      };
      here = λ a found below jump among. elim (next-at a found below) [
        | inl less ↦ still_in jumps at a (before.here a found less jump among)
        | inr same ↦ subst (Contains (jumps ++ at ∷ [])) (sym same) (last_in jumps at)
      ];
    }

    -- and one that is none is passed over.
    pub before-none : (jumps : List ℕ) → AreJumpsBefore bytes Among i s place jumps → told ≡ false → AreJumpsBefore bytes Among i s (place + 1) jumps
    before-none jumps before never = record {
      first = before.first;
      here = λ a found below jump among. elim (next-at a found below) [
        | inl less ↦ before.here a found less jump among
        | inr same ↦ absurd (both_ways _ (told-at ∙ never) (ap (is_register_jump_at bytes) (sym same) ∙ jump))
      ];
    }

-- ---- section after section

module _ (bytes : List ℕ) (Among : ℕ → Type 0) (i : ℕ) (s : Section) (is : s ≡ section bytes i) (jumps : List ℕ) where
  -- One more section, all of whose jumps are found:
  first-more : AreJumpsOfFirst bytes Among i jumps → ((a : ℕ) → code_section_of bytes a ≡ Some s → IsTrue (is_register_jump_at bytes a) → Among a → Contains jumps a) → AreJumpsOfFirst bytes Among (i + 1) jumps
  first-more first here = record {
    sound = first.sound;
    complete = λ j a below found jump among. elim (cases_order j i) [
      | inl same ↦ here a (found ∙ ap (λ k. Some (section bytes k)) same ∙ ap Some (sym is)) jump among
      | inr other ↦ elim other [
        | inl less ↦ first.complete j a less found jump among
        | inr more ↦ absurd (omega arith)
      ]
    ];
  }

  -- one that was gone through to its last place,
  pub first-all : IsCodeOf bytes s → (first end place : ℕ) → ArePlaces Among s first end → end ≤ place → AreJumpsBefore bytes Among i s place jumps → AreJumpsOfFirst bytes Among (i + 1) jumps
  first-all of first end place places past before =
      first-more before.first
      (λ a found jump among.
      let at = place-among bytes Among i s of first end places a found among in
      before.here a found (omega (arith, at.1, past)) jump among)

  -- one that is no code,
  pub first-data : is_code_section s ≡ false → AreJumpsOfFirst bytes Among i jumps → AreJumpsOfFirst bytes Among (i + 1) jumps
  first-data data_only first =
      first-more first (λ a found jump among. absurd (both_ways _ data_only (place-of bytes a s found).code))

  -- or one that holds no halfword.
  pub first-short : s.size < 2 → AreJumpsOfFirst bytes Among i jumps → AreJumpsOfFirst bytes Among (i + 1) jumps
  first-short short first =
      first-more first
      (λ a found jump among. let at = place-of bytes a s found in absurd (omega (arith, at.start, at.end)))

-- ---- all sections

-- An address with the halfword of such a jump has a code section.
section-of_jump : (bytes : List ℕ) (a : ℕ) → IsTrue (is_register_jump_at bytes a) → (s : Section) × (code_section_of bytes a ≡ Some s)
section-of_jump bytes a jump = by (code_section_of bytes a) refl jump
  where
    by : (o : Option Section) → code_section_of bytes a ≡ o → option_map_or is_register_jump (option_map (λ s. u16_at bytes (file_offset s a)) o) false ≡ true → (s : Section) × (code_section_of bytes a ≡ Some s)
    by None is never = absurd (false≢true never)
    by (Some s) is jump = (s, is)

module _ (bytes : List ℕ) (after last : Option ℕ) (jumps : List ℕ) where
  -- Those of all sections are all that there are.
  pub all-sections : AreJumpsOfFirst bytes (IsBetween after last) (section_count bytes) jumps → AreRegisterJumpsBetween bytes after last jumps
  all-sections first a = (
    first.sound a,
    λ (jump, among).
        let found = section-of_jump bytes a jump in
        let at = section-at bytes a found.0 found.1 in
        first.complete at.0 a at.1.within (found.1 ∙ ap Some (sym at.1.is)) jump among,
  )

  -- An address with a table is among them,
  pub table-found : AreRegisterJumpsBetween bytes after last jumps → (a : ℕ) → IsBetween after last a → IsSome (table_at bytes a) → Contains jumps a
  table-found all a among some = elim (cases_Bool (is_register_jump_at bytes a)) [
    | inl jump ↦ (all a).1 (jump, among)
    | inr never ↦ absurd (false≢true (sym (ap is_some (no-table bytes a never)) ∙ some))
  ]

  -- and each of them is a code address.
  pub jumps-code : AreRegisterJumpsBetween bytes after last jumps → All (λ a. IsTrue (is_code bytes a)) jumps
  jumps-code all =
      each_of (λ a. IsTrue (is_code bytes a)) jumps
      (λ a there. let found = section-of_jump bytes a ((all a).0 there).0 in ap is_some found.1)

-- Where there are no bounds, they are all of the file.
pub all-jumps : (bytes : List ℕ) (jumps : List ℕ) → AreRegisterJumpsBetween bytes None None jumps → AreRegisterJumps bytes jumps
all-jumps bytes jumps all a = (λ there. ((all a).0 there).0, λ jump. (all a).1 (jump, (tt, tt)))

pub all-tables : (bytes : List ℕ) (jumps : List ℕ) → ((a : ℕ) → IsBetween None None a → IsSome (table_at bytes a) → Contains jumps a) → (a : ℕ) → IsSome (table_at bytes a) → Contains jumps a
all-tables bytes jumps found a some = found a (tt, tt) some
