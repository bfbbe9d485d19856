-- The ranges of all sections, one after the other.
use Rattle.std.proofs.Common.{◌≡◌, ℕ, ◌+◌, ◌≤◌, true, false, List, [], ◌∷◌, ◌++◌, map, ◌&&◌, not, sym, ap, ◌∙◌, arith, eqb}
use Rattle.std.specs.List.{filter, flat_map, range_with_len}
use Rattle.std.proofs.lemmas.Bool.{eqb-true, and_parts, ltb-false}
use Rattle.std.proofs.lemmas.List.Concat.{flat_map-append}
use Rattle.std.proofs.lemmas.List.Elements.{filter-append}
use Rattle.std.proofs.lemmas.List.FromFn.{map-range_with_len_more}
use Rattle.elf_image.specs.declared.section.Section.{Section}
use Rattle.elf_image.specs.Sections.{section, is_read_only_section, is_progbits, is_allocated, is_writable}
use Rattle.elf_image.specs.FaultTests.{is_out_of_file}
use Rattle.landing_pads.specs.declared.range.Range.{Range}
use Rattle.landing_pads.specs.Pad.{is_frames, section_ranges}

-- the ranges of the first n sections
abbrev pub ranges_to : List ℕ → ℕ → List Range
ranges_to bytes n = flat_map (section_ranges bytes) (filter (is_frames bytes) (map (section bytes) (range_with_len 0 n)))

-- one more section
pub sections-more : (bytes : List ℕ) (n : ℕ) (done more : List Range) → done ≡ ranges_to bytes n → more ≡ done ++ flat_map (section_ranges bytes) (filter (is_frames bytes) (section bytes n ∷ [])) → more ≡ ranges_to bytes (n + 1)
sections-more bytes n done more so_far pushed =
    let f = section_ranges bytes in
    let p = is_frames bytes in
    let before = map (section bytes) (range_with_len 0 n) in
    pushed ∙ ap (λ rs. rs ++ flat_map f (filter p (section bytes n ∷ []))) so_far
    ∙ sym (flat_map-append f (filter p before) (filter p (section bytes n ∷ [])))
    ∙ ap (flat_map f) (sym (filter-append p before (section bytes n ∷ [])))
    ∙ ap (λ ss. flat_map f (filter p ss)) (sym (map-range_with_len_more (section bytes) 0 n n (omega arith)))

-- a read-only section lies in the file
pub read_only-in_file : (len : ℕ) (s : Section) → is_read_only_section s ≡ true → is_out_of_file len s ≡ false → s.offset + s.size ≤ len
read_only-in_file len s read_only within =
    let parts = and_parts (is_progbits s && is_allocated s) (not (is_writable s)) read_only in
    let kind = eqb-true s.kind 1 (and_parts (is_progbits s) (is_allocated s) parts.0).0 in
    let not_null : eqb s.kind 0 ≡ false = ap (λ k. eqb k 0) kind in
    let not_nobits : eqb s.kind 8 ≡ false = ap (λ k. eqb k 8) kind in
    ltb-false len (s.offset + s.size) (rw (not_null, not_nobits) at within)
