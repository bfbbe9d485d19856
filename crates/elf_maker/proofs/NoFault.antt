-- A made file has no fault of its header and sections.
use Rattle.std.proofs.Common.{◌≡◌, ℕ, ◌+◌, ◌-◌, ◌*◌, ◌<◌, ◌≤◌, ◌^◌, ◌%◌, true, false, List, length, refl, arith}
use Rattle.std.proofs.lemmas.Bool.{le-ltb, eq-eqb, ne_eqb, and_from}
use Rattle.elf_image.specs.Header as header
use Rattle.elf_image.specs.Header.{program_header_types}
use Rattle.elf_image.specs.Sections.{is_code_section}
use Rattle.elf_image.specs.Code.{is_even}
use Rattle.elf_image.specs.FaultTests.{is_too_large, is_short, has_wrong_magic, has_wrong_class, has_wrong_data, has_wrong_version, has_wrong_machine, has_wrong_type, has_wrong_header_size, has_bad_program_table, has_interpreter, has_no_sections, has_bad_section_table, is_out_of_file, has_section_out_of_file, is_wrapping, has_wrapping_section, is_odd_code, has_odd_code, has_code_overlap, has_entry_outside_code}
use Rattle.elf_maker.specs.declared.parts.Parts.{Parts}
use Rattle.elf_maker.specs.Symbols.{symbol_table, string_table}
use Rattle.elf_maker.specs.Sections.{section_headers, headers_place, rodata_place, symbols_place, strings_place}
use Rattle.elf_maker.specs.MadeFile.{made_file}
use Rattle.elf_maker.specs.Given.{is_code_given, is_in_code}
use Rattle.elf_maker.proofs.Sizes.{few_sections, length-made_file, length-section_table, code_ends, rodata_ends, symbols_end, strings_end}
use Rattle.elf_maker.proofs.Places.{behind_header, made_file-is}
use Rattle.elf_maker.proofs.Fitting.{AreFit}
use Rattle.elf_maker.proofs.ReadHeader as read
use Rattle.elf_maker.proofs.MadeSections.{sections_made, count_made, entry_made, table_made, none_any, none_kept}
use Rattle.elf_maker.proofs.ReadParts.{code_made, in_range-from}

module _ (parts : Parts) (fit : AreFit parts) where
  abbrev file : List ℕ
  file = made_file parts

  abbrev count : ℕ
  count = length (section_headers parts)

  pub not_too_large : is_too_large file ≡ false
  unfolding is_too_large
  not_too_large = le-ltb 67108864 (length file) fit.small

  pub not_short : is_short file ≡ false
  unfolding is_short
  not_short = le-ltb (length file) 64 (omega (arith, code_ends parts))

  pub right_magic : has_wrong_magic file ≡ false
  unfolding has_wrong_magic
  right_magic =
      let m = read.magic file (behind_header parts) parts.entry (headers_place parts) count (made_file-is parts) in
      rw (m.0, m.1, m.2, m.3) refl

  pub right_class : has_wrong_class file ≡ false
  unfolding has_wrong_class
  right_class = rw (read.ident file (behind_header parts) parts.entry (headers_place parts) count (made_file-is parts)).0 refl

  pub right_data : has_wrong_data file ≡ false
  unfolding has_wrong_data
  right_data = rw (read.ident file (behind_header parts) parts.entry (headers_place parts) count (made_file-is parts)).1 refl

  pub right_version : has_wrong_version file ≡ false
  unfolding has_wrong_version
  right_version =
      rw ((read.ident file (behind_header parts) parts.entry (headers_place parts) count (made_file-is parts)).2, read.file_version-is file (behind_header parts) parts.entry (headers_place parts) count (made_file-is parts)) refl

  pub right_machine : has_wrong_machine file ≡ false
  unfolding has_wrong_machine
  right_machine = rw (read.machine-is file (behind_header parts) parts.entry (headers_place parts) count (made_file-is parts)) refl

  pub right_type : has_wrong_type file ≡ false
  unfolding has_wrong_type
  right_type = rw (read.file_type-is file (behind_header parts) parts.entry (headers_place parts) count (made_file-is parts)) refl

  pub right_header_size : has_wrong_header_size file ≡ false
  unfolding has_wrong_header_size
  right_header_size = rw (read.header_size-is file (behind_header parts) parts.entry (headers_place parts) count (made_file-is parts)) refl

  no_program_headers : header.program_header_count file ≡ 0
  no_program_headers = read.program_header_count-is file (behind_header parts) parts.entry (headers_place parts) count (made_file-is parts)

  pub no_bad_program_table : has_bad_program_table file ≡ false
  unfolding has_bad_program_table
  no_bad_program_table = rw no_program_headers refl

  pub no_interpreter : has_interpreter file ≡ false
  unfolding has_interpreter program_header_types
  no_interpreter = rw no_program_headers refl

  pub some_sections : has_no_sections file ≡ false
  unfolding has_no_sections
  some_sections = rw (count_made parts fit) (ne_eqb count 0 (λ e. let few = few_sections parts in omega arith))

  pub right_section_table : has_bad_section_table file ≡ false
  unfolding has_bad_section_table
  right_section_table =
      rw (read.section_header_size-is file (behind_header parts) parts.entry (headers_place parts) count (made_file-is parts), table_made parts fit, count_made parts fit)
      (le-ltb (length file) (headers_place parts + 64 * count) (omega (arith, length-made_file parts, length-section_table parts)))

  pub sections_in_file : has_section_out_of_file file ≡ false
  unfolding has_section_out_of_file
  sections_in_file =
      let code = le-ltb (length file) (64 + length parts.code) (code_ends parts) in
      let rodata = le-ltb (length file) (rodata_place parts + length parts.rodata) (rodata_ends parts) in
      let symbols = le-ltb (length file) (symbols_place parts + length (symbol_table parts.symbols)) (symbols_end parts) in
      let strings = le-ltb (length file) (strings_place parts + length (string_table parts.symbols)) (strings_end parts) in
      rw (sections_made parts fit, none_any parts (is_out_of_file (length file)) symbols strings, code, rodata) refl

  pub no_section_wraps : has_wrapping_section file ≡ false
  unfolding has_wrapping_section
  no_section_wraps =
      let code = le-ltb (2 ^ 64 - 1) (parts.code_at + length parts.code) fit.code_end in
      let rodata = le-ltb (2 ^ 64 - 1) (parts.rodata_at + length parts.rodata) fit.rodata_end in
      rw (sections_made parts fit, none_any parts is_wrapping refl refl, code, rodata) refl

  pub no_odd_code : has_odd_code file ≡ false
  unfolding has_odd_code
  no_odd_code =
      let even = eq-eqb (parts.code_at % 2) 0 fit.even_code in
      rw (sections_made parts fit, none_any parts is_odd_code refl refl, even) refl

  pub no_code_overlap : has_code_overlap file ≡ false
  unfolding has_code_overlap
  no_code_overlap = rw (sections_made parts fit, none_kept parts is_code_section refl refl) refl

  pub entry_in_code : is_code_given parts parts.entry ≡ true
  entry_in_code =
      and_from (is_even parts.entry) (is_in_code parts parts.entry 2) (eq-eqb (parts.entry % 2) 0 fit.even_entry)
      (in_range-from parts.entry 2 parts.code_at (length parts.code) fit.entry_start (fits parts.entry parts.code_at (length parts.code) fit.even_entry fit.even_code fit.even_length fit.entry_end))
    where
      -- an even address before an even end is at least two bytes before it
      fits : (e a n : ℕ) → e % 2 ≡ 0 → a % 2 ≡ 0 → n % 2 ≡ 0 → e < a + n → e + 2 ≤ a + n
      fits e a n even_e even_a even_n below = omega arith

  pub entry_is_code : has_entry_outside_code file ≡ false
  unfolding has_entry_outside_code
  entry_is_code = rw (entry_made parts fit, code_made parts fit parts.entry, entry_in_code) refl
