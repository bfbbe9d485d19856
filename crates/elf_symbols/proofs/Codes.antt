-- The addresses of seed symbols are code addresses.
use Rattle.std.proofs.Common.{◌≡◌, ℕ, ◌%◌, ◌<◌, true, ◌&&◌, eqb, ltb, List, [], Option, Some, None, ◌∙◌}
use Rattle.std.specs.List.{All}
use Rattle.std.specs.Option.{option_map_or}
use Rattle.std.proofs.lemmas.Bool.{and_parts, and_from, ltb-true}
use Rattle.std.proofs.lemmas.List.Elements.{All-nil, filter_passes, All-weaker}
use Rattle.elf_image.specs.declared.section.Section.{Section}
use Rattle.elf_image.specs.Header.{section_count}
use Rattle.elf_image.specs.Sections.{section, sections, is_code_section, holds_bytes}
use Rattle.elf_image.specs.Code.{is_code, is_even, code_section_of, is_code_section_of}
use Rattle.elf_image.specs.Symbols.{Symbol, is_seed_symbol, is_code_section_index, symbol_table, seed_symbols, seed_symbols_in, symbols_in}
use Rattle.elf_image.proofs.Finds.{is_some-find, any-contained}
use Rattle.elf_image.proofs.Ranges.{Contains-section}

-- an even address whose two bytes lie in a code section of the file
code_in : (bytes : List ℕ) (a i : ℕ) → i < section_count bytes → is_code_section (section bytes i) ≡ true → is_even a ≡ true → holds_bytes a 2 (section bytes i) ≡ true → is_code bytes a ≡ true
unfolding code_section_of
code_in bytes a i within code even holds =
    rw even
    (is_some-find (is_code_section_of a) (sections bytes)
    ∙ any-contained (is_code_section_of a) (sections bytes) (section bytes i) (Contains-section bytes i within) (and_from _ _ code holds))

pub code-from_seed : (bytes : List ℕ) (s : Symbol) → is_seed_symbol bytes s ≡ true → is_code bytes s.value ≡ true
unfolding is_seed_symbol
code-from_seed bytes s seed =
    let all = and_parts (eqb (s.info % 16) 2 && is_code_section_index bytes s.section && is_even s.value) (holds_bytes s.value 2 (section bytes s.section)) seed in
    let front = and_parts (eqb (s.info % 16) 2 && is_code_section_index bytes s.section) (is_even s.value) all.0 in
    let kind = and_parts (eqb (s.info % 16) 2) (is_code_section_index bytes s.section) front.0 in
    let index = and_parts (ltb 0 s.section && ltb s.section 0xFF00 && ltb s.section (section_count bytes)) (is_code_section (section bytes s.section)) kind.1 in
    let below = and_parts (ltb 0 s.section && ltb s.section 0xFF00) (ltb s.section (section_count bytes)) index.0 in
    code_in bytes s.value s.section (ltb-true s.section (section_count bytes) below.1) index.1 front.1 all.1

in_table : (bytes : List ℕ) (table : Section) → All (λ (s : Symbol). is_code bytes s.value ≡ true) (seed_symbols_in bytes table)
unfolding seed_symbols_in
in_table bytes table =
    All-weaker (λ (s : Symbol). is_seed_symbol bytes s ≡ true) (λ (s : Symbol). is_code bytes s.value ≡ true) (code-from_seed bytes)
    (seed_symbols_in bytes table) (filter_passes (is_seed_symbol bytes) (symbols_in bytes table))

by_table : (bytes : List ℕ) (o : Option Section) → All (λ (s : Symbol). is_code bytes s.value ≡ true) (option_map_or (seed_symbols_in bytes) o [])
by_table bytes None = All-nil (λ (s : Symbol). is_code bytes s.value ≡ true)
by_table bytes (Some table) = in_table bytes table

pub code-seed_symbols : (bytes : List ℕ) → All (λ (s : Symbol). is_code bytes s.value ≡ true) (seed_symbols bytes)
code-seed_symbols bytes = by_table bytes (symbol_table bytes)
