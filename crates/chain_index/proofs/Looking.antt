-- What is kept of each section, and looked up.
use Rattle.std.proofs.Common.{◌≡◌, ℕ, zero, suc, ◌+◌, ◌-◌, ◌*◌, ◌/◌, ◌%◌, ◌<◌, ◌≤◌, true, false, List, [], ◌∷◌, ◌++◌, length, get_or, Option, Some, None, is_some, leb, refl, sym, ap, ◌∙◌, subst, arith, inl, inr}
use Rattle.std.specs.Prelude.{IfSome, IfNone}
use Rattle.std.specs.Option.{option_map, option_and_then}
use Rattle.std.specs.List.{All, Contains}
use Rattle.std.specs.List.Sorted.{IsNonDecreasingBy}
use Rattle.std.proofs.lemmas.Bool.{cases_order, eqb-true, and_from, cond-true, cond-false, le-leb}
use Rattle.std.proofs.lemmas.List.{get_or_append_left, get_or_push, get_or_default, length_push}
use Rattle.std.proofs.lemmas.List.Elements.{All-push, Contains-append_left, Contains-push, Contains-push_cases}
use Rattle.elf_image.specs.declared.section.Section.{Section}
use Rattle.elf_image.specs.Number.{u16_at, u32_at}
use Rattle.elf_image.specs.Sections.{section, file_offset, holds_bytes}
use Rattle.elf_image.specs.Code.{is_even, is_code, code_section_of, word_in}
use Rattle.elf_image.proofs.LaidOut.{holds-true, holds-above}
use Rattle.elf_image.proofs.OneSection.{code_section-is}
use Rattle.chain_index.specs.declared.lookup.SectionReaches.{SectionReaches}
use Rattle.chain_index.specs.Chain.{IsChainEnd}
use Rattle.chain_index.specs.Found.{IsCodeOf, AreReaches, IsSectionReaches, AreFalling, BeginsAt, AreChainEndsOf, last_count}
use Rattle.chain_index.specs.Numbers.{codes_below, code_count}
use Rattle.chain_index.specs.Inner.{Reaches, AreRight, AreRising, IsCountAbove, AreFoundBut, IsReachedAt}
use Rattle.chain_index.proofs.CodeSections.{section-at, section-half, code-of, holds-at}
use Rattle.chain_index.proofs.Counts.{even_code, below_zero, in_section, not_before, begins_after, none_there, counted_from}
use Rattle.chain_index.proofs.Joins.{one_section, none_behind, last_greatest}

-- sections that rise never fall
never_falling : (left : List Section) → AreRising left → IsNonDecreasingBy (λ (s : Section). s.address) left
never_falling left rising i j d up below = elim (cases_order i j) [
  | inl same ↦ let here : (get_or left i d).address ≡ (get_or left j d).address = ap (λ k. (get_or left k d).address) same in omega (arith, here)
  | inr other ↦ elim other [
    | inl less ↦ omega (arith, rising i j d less below)
    | inr more ↦ absurd (omega arith)
  ]
]

-- Some sections are left, in the order of their addresses, and what is found of all others is right.
pub record IsLeft (bytes : List ℕ) (left : List Section) (found : List SectionReaches) : Type 0 where
  pub code : All (IsCodeOf bytes) left
  pub sorted : AreRising left
  pub right : AreRight bytes found
  pub falling : AreFalling found
  pub above : (i j : ℕ) (d : Section) (e : SectionReaches) → i < length left → j < length found → (get_or left i d).address < (get_or found j e).address
  pub but : AreFoundBut bytes left found

-- nothing is found yet
pub all_left : (bytes : List ℕ) (left : List Section) → All (IsCodeOf bytes) left → AreRising left → AreFoundBut bytes left [] → IsLeft bytes left []
all_left bytes left code sorted but = record {
  code = code;
  sorted = sorted;
  right = λ i d below. absurd (omega arith);
  falling = λ i j d up below. absurd (omega arith);
  above = λ i j d e inside below. absurd (omega arith);
  but = but;
}

-- the last that is left is one of them
pub last_code : (bytes : List ℕ) (rest : List Section) (s : Section) (found : List SectionReaches) → IsLeft bytes (rest ++ s ∷ []) found → IsCodeOf bytes s
last_code bytes rest s found left =
    let last = Contains-push rest s in subst (IsCodeOf bytes) last.2 (left.code last.0 s last.1)

module _ (bytes : List ℕ) (rest : List Section) (s : Section) (found : List SectionReaches) (kept : SectionReaches)
    (left : IsLeft bytes (rest ++ s ∷ []) found)
    (address : kept.address ≡ s.address)
    (offset : kept.offset ≡ s.offset)
    (size : length kept.reaches.items ≡ s.size / 2)
    (from : kept.from ≡ last_count 0 found + s.size / 2)
    (right : AreReaches bytes s.address kept.reaches.items) where
  s_of : IsCodeOf bytes s
  s_of = last_code bytes rest s found left

  -- no other section that is left holds an address behind it
  none_left_behind : (x : ℕ) → s.address + 2 * (s.size / 2) ≤ x → (u : Section) → Contains (rest ++ s ∷ []) u → is_even x ≡ true → u.address ≤ x → x + 2 ≤ u.address + u.size → ⊥
  none_left_behind x behind u there even low within =
      let u_of : IsCodeOf bytes u = subst (IsCodeOf bytes) there.2 (left.code there.0 u there.1) in
      not_before bytes s s_of u u_of (last_greatest rest s u (never_falling (rest ++ s ∷ []) left.sorted) there) x behind even within

  -- so many code addresses there are from its first address on
  counted : codes_below bytes kept.address + kept.from ≡ code_count bytes
  counted =
      let end : ℕ = s.address + 2 * (s.size / 2) in
      let small = s_of.in_memory in
      let last = Contains-push rest s in
      let above : (j : ℕ) (e : SectionReaches) → j < length found → end ≤ (get_or found j e).address =
      λ j e within.
      let right = left.right j e within in
      let start : (get_or (rest ++ s ∷ []) last.0 s).address ≡ s.address = ap (λ (t : Section). t.address) last.2 in
      let up : s.address < right.section.address = omega (arith, left.above last.0 j s e last.1 within, start, right.address) in
      omega (arith, begins_after bytes s s_of right.section right.of up, right.address) in
      let behind = counted_from bytes found left.right left.falling end (omega (arith, small)) above
      (λ x from below. none_there bytes (rest ++ s ∷ []) found left.but x below (none_left_behind x from)) in
      let inside = in_section bytes s s_of (s.size / 2) (omega arith) in
      let same : codes_below bytes kept.address ≡ codes_below bytes s.address = ap (codes_below bytes) address in
      omega (arith, behind, inside, same, from)

  kept_right : IsSectionReaches bytes kept
  kept_right = record { section = s; of = last_code bytes rest s found left; address = address; offset = offset; size = size; counted = counted; reaches = subst (λ a. AreReaches bytes a kept.reaches.items) (sym address) right }

  -- it begins no higher than what was found before
  lowest : (i : ℕ) (d : SectionReaches) → i < length found → kept.address ≤ (get_or found i d).address
  lowest i d below =
      let last = Contains-push rest s in
      let start : (get_or (rest ++ s ∷ []) last.0 s).address ≡ s.address = ap (λ (t : Section). t.address) last.2 in
      omega (arith, left.above last.0 i s d last.1 below, address)

  before : (i : ℕ) (d : SectionReaches) → i < length found → (get_or (found ++ kept ∷ []) i d).address ≡ (get_or found i d).address
  before i d below = ap (λ (r : SectionReaches). r.address) (get_or_append_left found (kept ∷ []) d i below)

  at_last : (i : ℕ) (d : SectionReaches) → i ≡ length found → (get_or (found ++ kept ∷ []) i d).address ≡ kept.address
  at_last i d is = ap (λ (r : SectionReaches). r.address) (get_or_push found kept d i (sym is))

  still_falling : AreFalling (found ++ kept ∷ [])
  still_falling i j d up below =
      let size_more = length_push found kept in
      elim (cases_order j (length found)) [
        | inl last ↦ elim (cases_order i (length found)) [
          | inl both ↦ omega (arith, at_last i d both, at_last j d last)
          | inr other ↦ elim other [
            | inl less ↦ omega (arith, before i d less, at_last j d last, lowest i d less)
            | inr more ↦ absurd (omega arith)
          ]
        ]
        | inr other ↦ elim other [
          | inl less ↦ let first : i < length found = omega arith in omega (arith, before i d first, before j d less, left.falling i j d up less)
          | inr more ↦ absurd (omega arith)
        ]
      ]

  rest_above : (i j : ℕ) (d : Section) (e : SectionReaches) → i < length rest → j < length (found ++ kept ∷ []) → (get_or rest i d).address < (get_or (found ++ kept ∷ []) j e).address
  rest_above i j d e inside below =
      let size_more = length_push found kept in
      let size_left = length_push rest s in
      let same : (get_or (rest ++ s ∷ []) i d).address ≡ (get_or rest i d).address = ap (λ (t : Section). t.address) (get_or_append_left rest (s ∷ []) d i inside) in
      elim (cases_order j (length found)) [
        | inl last ↦
            let up = left.sorted i (length rest) d (omega (arith, inside)) (omega (arith, size_left)) in
            let start : (get_or (rest ++ s ∷ []) (length rest) d).address ≡ s.address = ap (λ (t : Section). t.address) (get_or_push rest s d (length rest) refl) in
            omega (arith, up, same, start, at_last j e last, address)
        | inr other ↦ elim other [
          | inl less ↦ omega (arith, left.above i j d e (omega (arith, inside, size_left)) less, same, before j e less)
          | inr more ↦ absurd (omega arith)
        ]
      ]

  begins_more : (a : ℕ) → BeginsAt found a → BeginsAt (found ++ kept ∷ []) a
  begins_more a begins = (begins.0, Contains-append_left found (kept ∷ []) begins.0 begins.1, begins.2)

  -- one section less is left
  pub less_left : IsLeft bytes rest (found ++ kept ∷ [])
  less_left = record {
    code = λ k d below. subst (IsCodeOf bytes) (get_or_append_left rest (s ∷ []) d k below) (left.code k d (omega (arith, length_push rest s)));
    sorted = λ i j d up below.
        let both = left.sorted i j d up (omega (arith, length_push rest s)) in
        let first : (get_or (rest ++ s ∷ []) i d).address ≡ (get_or rest i d).address = ap (λ (t : Section). t.address) (get_or_append_left rest (s ∷ []) d i (omega arith)) in
        let second : (get_or (rest ++ s ∷ []) j d).address ≡ (get_or rest j d).address = ap (λ (t : Section). t.address) (get_or_append_left rest (s ∷ []) d j below) in
        omega (arith, both);
    right = All-push (IsSectionReaches bytes) found kept left.right kept_right;
    falling = still_falling;
    above = rest_above;
    but = λ i within code some. elim (left.but i within code some) [
      | inl there ↦ elim (Contains-push_cases rest s (section bytes i) there) [
        | inl still ↦ inl still
        | inr last ↦ inr (kept, Contains-push found kept, address ∙ ap (λ (t : Section). t.address) last)
      ]
      | inr begins ↦ inr (begins_more (section bytes i).address begins)
    ];
  }

-- how far the chain of the address behind a section reaches
pub behind_reaches : (bytes : List ℕ) (rest : List Section) (s : Section) (found : List SectionReaches) (e : ℕ) (o : Option ℕ) → IsLeft bytes (rest ++ s ∷ []) found → e ≡ s.address + 2 * (s.size / 2)
    → IfSome o (λ _. (file : List ℕ) → AreRight file found → Reaches file e o) → IfNone o ((file : List ℕ) → AreRight file found → BeginsAt found e → ⊥) → Reaches bytes e o
behind_reaches bytes rest s found e None left at some none =
    none_behind bytes rest s found (last_code bytes rest s found left) (never_falling (rest ++ s ∷ []) left.sorted) left.but e at (none bytes left.right)
behind_reaches bytes rest s found e (Some reach) left at some none = some bytes left.right

-- nothing is left where nothing was taken
pub none_left : (n : ℕ) → (0 < n → false ≡ true) → n ≡ 0
none_left zero some = refl
none_left (suc n) some = let wrong = some (omega arith) in absurd (cc)

-- all is found
pub index_of : (bytes : List ℕ) (left : List Section) (found : List SectionReaches) → IsLeft bytes left found → length left ≡ 0 → AreChainEndsOf bytes found
index_of bytes left found all none = record { right = all.right; falling = all.falling; whole = λ a. at (code_section_of bytes a) a refl; counted = counted }
  where
    counted : last_count 0 found ≡ code_count bytes
    counted =
        let below = counted_from bytes found all.right all.falling 0 (omega arith) (λ j e within. omega arith)
        (λ x from below. none_there bytes left found all.but x below (λ u there even low within. absurd (omega (arith, there.1)))) in
        omega (arith, below, below_zero bytes)

    at : (o : Option Section) (a : ℕ) → code_section_of bytes a ≡ o → IfSome o (λ s. BeginsAt found s.address)
    at None a is = tt
    at (Some s) a is =
        let place = section-at bytes a s is in
        elim (all.but place.0 place.1.within place.1.code place.1.some) [
          | inl there ↦ absurd (omega (arith, there.1))
          | inr begins ↦ subst (λ t. BeginsAt found t.address) place.1.is begins
        ]

-- ---- the section that begins at an address

module _ (found : List SectionReaches) (a count : ℕ) (counted : IsCountAbove found a count) where
  -- is the first one that does not begin above it
  pub begins_behind : AreFalling found → (begins : BeginsAt found a) → (count < length found) × ((d : SectionReaches) → (get_or found count d).address ≡ a)
  begins_behind falling begins =
      let kept = begins.0 in
      let i = begins.1.0 in
      let start : (get_or found i kept).address ≡ a = ap (λ (r : SectionReaches). r.address) begins.1.2 ∙ begins.2 in
      let late : count ≤ i = elim (cases_order count i) [
        | inl same ↦ omega arith
        | inr other ↦ elim other [ inl less ↦ omega arith | inr more ↦ absurd (omega (arith, counted.above i kept more)) ]
      ] in
      let within : count < length found = omega (arith, begins.1.1) in (
        within,
        λ d.
            let same : (get_or found count d).address ≡ (get_or found count kept).address = ap (λ (r : SectionReaches). r.address) (get_or_default found count d kept within) in
            omega (arith, same, start, counted.others count kept (omega arith) within, falling count i kept late begins.1.1),
      )

-- ---- looking up

-- a section that is kept is that of each code address of its halfwords
pub reached : (bytes : List ℕ) (a : ℕ) (kept : SectionReaches) → is_code bytes a ≡ true → IsSectionReaches bytes kept → kept.address ≤ a → (a - kept.address) / 2 < length kept.reaches.items → IsReachedAt bytes a kept
reached bytes a kept code right low within =
    let s = right.section in
    let i : ℕ = (a - kept.address) / 2 in
    let a_even : a % 2 ≡ 0 = eqb-true (a % 2) 0 (even_code bytes a code) in
    let start_even : kept.address % 2 ≡ 0 = eqb-true (kept.address % 2) 0 (even_code bytes kept.address right.reaches.code) in
    let at : kept.address + 2 * i ≡ a = omega (arith, low) in
    let at_s : s.address + 2 * i ≡ a = omega (arith, at, right.address) in
    let inside : 2 * i + 2 ≤ s.size = omega (arith, within, right.size) in
    let is : code_section_of bytes a ≡ Some s = subst (λ b. code_section_of bytes b ≡ Some s) at_s (section-half bytes s right.of i inside) in
    let numbered : codes_below bytes a ≡ codes_below bytes s.address + i = ap (codes_below bytes) (sym at_s) ∙ in_section bytes s right.of i (omega (arith, inside)) in
    let start_number : codes_below bytes kept.address ≡ codes_below bytes s.address = ap (codes_below bytes) right.address in
    let place : file_offset s a ≡ kept.offset + (a - kept.address) = omega (arith, right.offset, right.address) in
    record {
      image = right.of.image;
      start = low;
      within = within;
      end = λ d. subst (λ b. IsChainEnd bytes b (b + 2 * get_or kept.reaches.items i d)) at (right.reaches.ends i d within);
      half = ap (option_map (λ t. u16_at bytes (file_offset t a))) is ∙ ap (λ o. Some (u16_at bytes o)) place;
      in_file = omega (arith, right.of.in_file, at, inside, right.offset);
      word = λ more.
          let fits : a + 4 ≤ s.address + s.size = omega (arith, more, right.size, at_s) in
          ap (option_and_then (word_in bytes a)) is
          ∙ cond-true (holds_bytes a 4 s) _ None (and_from (leb s.address a) (leb (a + 4) (s.address + s.size)) (le-leb _ _ (omega (arith, at_s))) (le-leb _ _ fits))
          ∙ ap (λ o. Some (u32_at bytes o)) place;
      word_in_file = λ more. omega (arith, right.of.in_file, at, more, right.size, right.offset);
      no_word = λ last.
          let past : s.address + s.size < a + 4 = omega (arith, last, right.size, at_s) in
          ap (option_and_then (word_in bytes a)) is
          ∙ cond-false (holds_bytes a 4 s) (Some (u32_at bytes (file_offset s a))) None (holds-above a 4 s past);
      small = right.of.small;
      counted = omega (arith, right.counted);
      number = omega (arith, right.counted, numbered, start_number);
    }

module _ (bytes : List ℕ) (found : List SectionReaches) (index : AreChainEndsOf bytes found) (a : ℕ) (code : is_code bytes a ≡ true) (count : ℕ) (counted : IsCountAbove found a count) where
  section-of : (s : Section) × (code_section_of bytes a ≡ Some s)
  section-of = at (code_section_of bytes a) refl code
    where
      at : (o : Option Section) → code_section_of bytes a ≡ o → is_some o ≡ true → (s : Section) × (code_section_of bytes a ≡ Some s)
      at None is there = absurd (cc)
      at (Some s) is there = (s, is)

  begins : BeginsAt found section-of.0.address
  begins = subst (λ o. IfSome o (λ s. BeginsAt found s.address)) section-of.1 (index.whole a)

  held : (section-of.0.address ≤ a) × (a + 2 ≤ section-of.0.address + section-of.0.size)
  held = let in_it = holds-true a 2 section-of.0 (code_section-is bytes a section-of.0 section-of.1).2 in (in_it.0, omega (arith, in_it.0, in_it.1))

  starts : (d : SectionReaches) → (get_or found begins.1.0 d).address ≡ section-of.0.address
  starts d = ap (λ (r : SectionReaches). r.address) (get_or_default found begins.1.0 d begins.0 begins.1.1 ∙ begins.1.2) ∙ begins.2

  late : count ≤ begins.1.0
  late = elim (cases_order count begins.1.0) [
    | inl same ↦ omega arith
    | inr other ↦ elim other [ inl less ↦ omega arith | inr more ↦ absurd (omega (arith, counted.above begins.1.0 begins.0 more, starts begins.0, held.0)) ]
  ]

  pub look_within : count < length found
  look_within = omega (arith, late, begins.1.1)

  module _ (d : SectionReaches) where
    abbrev kept : SectionReaches
    kept = get_or found count d

    right : IsSectionReaches bytes kept
    right = index.right count d look_within

    low : kept.address ≤ a
    low = counted.others count d (omega arith) look_within

    high : section-of.0.address ≤ kept.address
    high = omega (arith, index.falling count begins.1.0 d late begins.1.1, starts d)

    section-is : IsCodeOf bytes section-of.0
    section-is = let place = section-at bytes a section-of.0 section-of.1 in subst (IsCodeOf bytes) place.1.is (code-of bytes right.of.image place.0 place.1.within place.1.code place.1.some)

    same : right.section ≡ section-of.0
    same =
        let t = right.section in
        let t_at = section-half bytes t right.of 0 (omega (arith, right.of.some)) in
        let s_at = section-is.whole t.address right.of.even (holds-at t.address section-of.0 (omega (arith, high, right.address)) (omega (arith, low, held.1, right.address))) in
        let start : t.address ≡ t.address + 2 * 0 = omega arith in
        one_section (sym t_at ∙ sym (ap (code_section_of bytes) start) ∙ s_at)

    address : kept.address ≡ section-of.0.address
    address = right.address ∙ ap (λ (t : Section). t.address) same

    size : length kept.reaches.items ≡ section-of.0.size / 2
    size = right.size ∙ ap (λ (t : Section). t.size / 2) same

    pub look : IsReachedAt bytes a kept
    look = reached bytes a kept code right low (omega (arith, held.0, held.1, size, address))
