-- Data words that are read of the bytes of their section alone.
use Rattle.std.proofs.Common.{◌≡◌, ℕ, ◌+◌, ◌-◌, ◌≤◌, List, take, drop, Some, sym, ap, ◌∙◌, arith}
use Rattle.std.specs.Option.{option_map}
use Rattle.std.proofs.lemmas.List.{drop-take, drop-drop}
use Rattle.byteorder.specs.Endian.{little_from}
use Rattle.byteorder.specs.Numbers.{little_from-take}
use Rattle.elf_image.specs.declared.section.Section.{Section}
use Rattle.elf_image.specs.Number.{u32_at}
use Rattle.elf_image.specs.Sections.{file_offset}
use Rattle.elf_image.specs.ReadOnly.{data_section_of, data_word}

-- the part of a file from o on, n bytes long, read at i
part-drop : (bytes : List ℕ) (o n i : ℕ) → i ≤ n → drop i (take n (drop o bytes)) ≡ take (n - i) (drop (o + i) bytes)
part-drop bytes o n i within =
    let e : n ≡ i + (n - i) = omega arith in
    ap (λ m. drop i (take m (drop o bytes))) e ∙ drop-take i (n - i) (drop o bytes) ∙ ap (take (n - i)) (drop-drop i o bytes)

u32-part : (bytes : List ℕ) (o n i : ℕ) → i + 4 ≤ n → u32_at (take n (drop o bytes)) i ≡ u32_at bytes (o + i)
unfolding u32_at
u32-part bytes o n i within =
    ap (little_from 0 4) (part-drop bytes o n i (omega arith)) ∙ little_from-take 0 4 (n - i) (drop (o + i) bytes) (omega arith)

-- the word at i of the n bytes from a on is the data word at a + i, where both are of one section
pub word-part : (bytes : List ℕ) (s : Section) (a n i : ℕ) → s.address ≤ a → data_section_of bytes (a + i) ≡ Some s → i + 4 ≤ n → data_word bytes (a + i) ≡ Some (u32_at (take n (drop (file_offset s a) bytes)) i)
word-part bytes s a n i start found within =
    let e : file_offset s (a + i) ≡ file_offset s a + i = omega arith in
    ap (option_map (λ t. u32_at bytes (file_offset t (a + i)))) found
    ∙ ap (λ o. Some (u32_at bytes o)) e
    ∙ ap Some (sym (u32-part bytes (file_offset s a) n i within))
