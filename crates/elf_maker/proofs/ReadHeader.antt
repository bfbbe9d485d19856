-- What is read of the ELF header of a made file.
use Rattle.std.proofs.Common.{◌≡◌, ℕ, ◌<◌, ◌^◌, List, [], ◌++◌, get_or, refl, arith}
use Rattle.byteorder.specs.Numbers.{little_number-reads_back}
use Rattle.elf_image.specs.Header as header
use Rattle.elf_maker.specs.Fields.{halves, words, xwords}
use Rattle.elf_maker.specs.Header.{file_header}
use Rattle.elf_maker.proofs.Places.{half-field, word-field, xword-field}

module _ (bytes rest : List ℕ) (entry table count : ℕ) (stands : bytes ≡ file_header entry table count ++ rest) where
  here : List ℕ
  here = file_header entry table count ++ rest

  pub magic : (get_or bytes 0 0 ≡ 0x7F) × (get_or bytes 1 0 ≡ 0x45) × (get_or bytes 2 0 ≡ 0x4C) × (get_or bytes 3 0 ≡ 0x46)
  unfolding file_header
  magic = rw stands (refl, refl, refl, refl)

  pub ident : (header.file_class bytes ≡ 2) × (header.data_encoding bytes ≡ 1) × (header.ident_version bytes ≡ 1)
  unfolding file_header
  ident = rw stands (refl, refl, refl)

  pub file_type-is : header.file_type bytes ≡ 2
  unfolding file_header halves words xwords here
  file_type-is = half-field 16 0 2 bytes here stands refl

  pub machine-is : header.machine bytes ≡ 243
  unfolding file_header halves words xwords here
  machine-is = half-field 18 0 243 bytes here stands refl

  pub file_version-is : header.file_version bytes ≡ 1
  unfolding file_header halves words xwords here
  file_version-is = word-field 20 0 1 bytes here stands refl

  pub header_size-is : header.header_size bytes ≡ 64
  unfolding file_header halves words xwords here
  header_size-is = half-field 52 0 64 bytes here stands refl

  pub program_header_count-is : header.program_header_count bytes ≡ 0
  unfolding file_header halves words xwords here
  program_header_count-is = half-field 56 0 0 bytes here stands refl

  pub section_header_size-is : header.section_header_size bytes ≡ 64
  unfolding file_header halves words xwords here
  section_header_size-is = half-field 58 0 64 bytes here stands refl

  pub section_count-is : count < 2 ^ 16 → header.section_count bytes ≡ count
  unfolding file_header halves words xwords here
  section_count-is fits = half-field 60 0 count bytes here stands (little_number-reads_back 2 count [] (omega arith))

  pub entry-is : entry < 2 ^ 64 → header.entry bytes ≡ entry
  unfolding file_header halves words xwords here
  entry-is fits = xword-field 24 0 entry bytes here stands (little_number-reads_back 8 entry [] (omega arith))

  pub section_table_offset-is : table < 2 ^ 64 → header.section_table_offset bytes ≡ table
  unfolding file_header halves words xwords here
  section_table_offset-is fits = xword-field 40 0 table bytes here stands (little_number-reads_back 8 table [] (omega arith))
