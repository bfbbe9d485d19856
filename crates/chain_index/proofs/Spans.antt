-- Halfwords and words of a code section, read of its bytes alone.
use Rattle.std.proofs.Common.{◌≡◌, ℕ, ◌+◌, ◌-◌, ◌*◌, ◌<◌, ◌≤◌, List, length, take, drop, Some, refl, sym, ap, ◌∙◌, arith, inl, inr, leb}
use Rattle.std.specs.Option.{option_map, option_and_then}
use Rattle.std.proofs.lemmas.Bool.{cases_Bool, cond-true, cond-false, le-leb, lt-leb, leb-true, leb-false}
use Rattle.std.proofs.lemmas.List.{drop-take, drop-drop, length-drop, length-take}
use Rattle.byteorder.specs.Endian.{little_from}
use Rattle.byteorder.specs.Numbers.{little_from-take}
use Rattle.elf_image.specs.declared.section.Section.{Section}
use Rattle.elf_image.specs.Number.{u16_at, u32_at}
use Rattle.elf_image.specs.Sections.{holds_bytes, file_offset}
use Rattle.elf_image.specs.Code.{half_at, word_at, word_in}
use Rattle.chain_index.specs.Found.{IsCodeOf}
use Rattle.chain_index.specs.Inner.{word_of}
use Rattle.chain_index.proofs.CodeSections.{section-half}

-- the part of a file from o on, n bytes long, read at i
part-drop : (bytes : List ℕ) (o n i : ℕ) → i ≤ n → drop i (take n (drop o bytes)) ≡ take (n - i) (drop (o + i) bytes)
part-drop bytes o n i within =
    let e : n ≡ i + (n - i) = omega arith in
    ap (λ m. drop i (take m (drop o bytes))) e ∙ drop-take i (n - i) (drop o bytes) ∙ ap (take (n - i)) (drop-drop i o bytes)

pub u16-part : (bytes : List ℕ) (o n i : ℕ) → i + 2 ≤ n → u16_at (take n (drop o bytes)) i ≡ u16_at bytes (o + i)
unfolding u16_at
u16-part bytes o n i within =
    ap (little_from 0 2) (part-drop bytes o n i (omega arith)) ∙ little_from-take 0 2 (n - i) (drop (o + i) bytes) (omega arith)

pub u32-part : (bytes : List ℕ) (o n i : ℕ) → i + 4 ≤ n → u32_at (take n (drop o bytes)) i ≡ u32_at bytes (o + i)
unfolding u32_at
u32-part bytes o n i within =
    ap (little_from 0 4) (part-drop bytes o n i (omega arith)) ∙ little_from-take 0 4 (n - i) (drop (o + i) bytes) (omega arith)

module _ (bytes : List ℕ) (s : Section) (of : IsCodeOf bytes s) where
  pub length-code : length (take s.size (drop s.offset bytes)) ≡ s.size
  length-code = omega (arith, length-take s.size (drop s.offset bytes), length-drop s.offset bytes, of.in_file)

module _ (bytes : List ℕ) (s : Section) (of : IsCodeOf bytes s) (i : ℕ) (within : 2 * i + 2 ≤ s.size) where
  offset-half : file_offset s (s.address + 2 * i) ≡ s.offset + 2 * i
  offset-half = omega arith

  pub half-code : half_at bytes (s.address + 2 * i) ≡ Some (u16_at (take s.size (drop s.offset bytes)) (2 * i))
  half-code =
      ap (option_map (λ t. u16_at bytes (file_offset t (s.address + 2 * i)))) (section-half bytes s of i within)
      ∙ ap (λ o. Some (u16_at bytes o)) offset-half
      ∙ ap Some (sym (u16-part bytes s.offset s.size (2 * i) within))

  word-in : word_in bytes (s.address + 2 * i) s ≡ word_of (take s.size (drop s.offset bytes)) (2 * i)
  word-in = elim (cases_Bool (leb (2 * i + 4) s.size)) [
    | inl fits ↦
        let size = length-code bytes s of in
        let inside : 2 * i + 4 ≤ s.size = leb-true (2 * i + 4) s.size fits in
        cond-true (holds_bytes (s.address + 2 * i) 4 s) _ _ (rw (le-leb s.address (s.address + 2 * i) (omega arith), le-leb (s.address + 2 * i + 4) (s.address + s.size) (omega arith)) refl)
        ∙ ap (λ o. Some (u32_at bytes o)) offset-half
        ∙ ap Some (sym (u32-part bytes s.offset s.size (2 * i) inside))
        ∙ sym (cond-true _ _ _ (ap (λ n. leb (2 * i + 4) n) size ∙ fits))
    | inr out ↦
        let size = length-code bytes s of in
        let outside : s.size < 2 * i + 4 = leb-false (2 * i + 4) s.size out in
        cond-false (holds_bytes (s.address + 2 * i) 4 s) _ _ (rw (le-leb s.address (s.address + 2 * i) (omega arith), lt-leb (s.address + 2 * i + 4) (s.address + s.size) (omega arith)) refl)
        ∙ sym (cond-false _ _ _ (ap (λ n. leb (2 * i + 4) n) size ∙ out))
  ]

  pub word-code : word_at bytes (s.address + 2 * i) ≡ word_of (take s.size (drop s.offset bytes)) (2 * i)
  word-code = ap (option_and_then (word_in bytes (s.address + 2 * i))) (section-half bytes s of i within) ∙ word-in
