-- The definitions at work on small files, by computation.
use Rattle.std.proofs.Common.{◌≡◌, ℕ, List, [], ◌∷◌, ◌++◌, length, take, drop, replicate, refl}
use Rattle.elf_maker.specs.declared.parts.Parts.{Parts}
use Rattle.elf_maker.specs.Fields.{halves, words, xwords, padding, padded}
use Rattle.elf_maker.specs.Header.{file_header}
use Rattle.elf_maker.specs.Symbols.{symbol_entry, symbol_entries, symbol_table, string_table}
use Rattle.elf_maker.specs.Sections.{section_bytes, rodata_place, symbols_place, strings_place, headers_place, symbol_headers, section_headers, section_table}
use Rattle.elf_maker.specs.MadeFile.{made_file}

-- everything that a file computes with
all_of_it : Unit {0}
unfolding halves words xwords padded file_header symbol_entry symbol_entries symbol_table string_table section_bytes rodata_place symbols_place strings_place headers_place symbol_headers section_headers section_table made_file
all_of_it = tt

paddings : (padding 0 ≡ 0) × (padding 1 ≡ 7) × (padding 4 ≡ 4) × (padding 8 ≡ 0) × (padding 9 ≡ 7)
paddings = (refl, refl, refl, refl, refl)

fields : (halves (0xF3 ∷ 0x1234 ∷ []) ≡ 0xF3 ∷ 0 ∷ 0x34 ∷ 0x12 ∷ []) × (words (0x8067 ∷ []) ≡ 0x67 ∷ 0x80 ∷ 0 ∷ 0 ∷ [])
unfolding halves words
fields = (refl, refl)

-- the instruction `ret` (00008067), at the address 10000 (hexadecimal)
return : List ℕ
return = 0x67 ∷ 0x80 ∷ 0 ∷ 0 ∷ []

-- that instruction once, and twice with the names `f` at its first address and `gh` at its second
alone : Parts
alone = record { entry = 0x10000; code_at = 0x10000; code = return; rodata_at = 0x20000; rodata = []; symbols = [] }

named : Parts
named = record {
  entry = 0x10000;
  code_at = 0x10000;
  code = return ++ return;
  rodata_at = 0x20000;
  rodata = [];
  symbols = record { name = 0x66 ∷ []; address = 0x10000 } ∷ record { name = 0x67 ∷ 0x68 ∷ []; address = 0x10004 } ∷ [];
}

-- the section headers stand behind the padded code
sizes : (headers_place alone ≡ 72) × (length (made_file alone) ≡ 264) × (headers_place named ≡ 152) × (length (made_file named) ≡ 472)
unfolding all_of_it return alone named
sizes = (refl, refl, refl, refl)

strings : string_table named.symbols ≡ 0 ∷ 0x66 ∷ 0 ∷ 0x67 ∷ 0x68 ∷ 0 ∷ []
unfolding string_table named
strings = refl

-- the second symbol: its name at 3, a global function of section 1 at 10004
second : drop 48 (symbol_table named.symbols) ≡ (3 ∷ 0 ∷ 0 ∷ 0 ∷ 0x12 ∷ 0 ∷ 1 ∷ 0 ∷ []) ++ (4 ∷ 0 ∷ 1 ∷ 0 ∷ 0 ∷ 0 ∷ 0 ∷ 0 ∷ []) ++ replicate 8 0
unfolding all_of_it named
second = refl

-- the header of the code: SHT_PROGBITS, its flags, its address, its place and its size without the padding
code_header_bytes : take 40 (drop 136 (made_file alone)) ≡ (0 ∷ 0 ∷ 0 ∷ 0 ∷ 1 ∷ 0 ∷ 0 ∷ 0 ∷ []) ++ (6 ∷ replicate 7 0) ++ (0 ∷ 0 ∷ 1 ∷ replicate 5 0) ++ (64 ∷ replicate 7 0) ++ (4 ∷ replicate 7 0)
unfolding all_of_it return alone
code_header_bytes = refl
