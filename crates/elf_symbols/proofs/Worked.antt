-- The definitions at work on two small files, by computation.
use Rattle.std.proofs.Common.{◌≡◌, ℕ, List, [], ◌∷◌, ◌++◌, length, replicate, refl, Some, None}
use Rattle.std.specs.List.{slice_set}
use Rattle.elf_image.specs.declared.fault.Fault.TheVariants.{SymbolTable, SymbolName}
use Rattle.elf_image.specs.Number.{u16_at, u32_at, u64_at}
use Rattle.elf_image.specs.Sections.{section, sections}
use Rattle.elf_image.specs.Symbols.{symbol_at, symbol_tables, is_seed_symbol, seed_symbols_in}
use Rattle.elf_image.specs.Seeds.{seeds, seed_name}
use Rattle.elf_image.specs.FaultTests.{has_bad_symbol_table, has_bad_symbol_name}
use Rattle.elf_image.specs.Faults.{has_fault, first_among, first_symbol_fault}
use Rattle.elf_symbols.specs.declared.seed.Seed.{Seed}
use Rattle.elf_symbols.specs.Seeds.{addresses_of, name_in}
use Rattle.elf_symbols.specs.Inner.Names.{text_of}

-- everything that seeds and the faults of symbols compute with
all_of_it : Unit {0}
unfolding u16_at u32_at u64_at section sections symbol_at symbol_tables is_seed_symbol seed_symbols_in seeds seed_name has_bad_symbol_table has_bad_symbol_name has_fault first_among first_symbol_fault
all_of_it = tt

-- a number of up to 255 in the eight bytes of a field
in_8 : ℕ → List ℕ
in_8 b = b ∷ replicate 7 0

-- an Elf64_Shdr: its type, flags, address (10000 in hexadecimal, or 0), offset, size, link and entry size, below 256
header : ℕ → ℕ → ℕ → ℕ → ℕ → ℕ → ℕ → List ℕ
header kind flags high offset size link entry_size =
    (0 ∷ 0 ∷ 0 ∷ 0 ∷ kind ∷ 0 ∷ 0 ∷ 0 ∷ []) ++ in_8 flags ++ (0 ∷ 0 ∷ high ∷ 0 ∷ 0 ∷ 0 ∷ 0 ∷ 0 ∷ []) ++ in_8 offset
    ++ in_8 size ++ in_8 link ++ in_8 0 ++ in_8 entry_size

-- an Elf64_Sym of a function in section 1, at an offset from 10000 (hexadecimal)
function : ℕ → ℕ → List ℕ
function name low = (name ∷ 0 ∷ 0 ∷ 0 ∷ 0x12 ∷ 0 ∷ 1 ∷ 0 ∷ []) ++ (low ∷ 0 ∷ 1 ∷ 0 ∷ 0 ∷ 0 ∷ 0 ∷ 0 ∷ []) ++ in_8 0

-- the header of a file that starts at 10000 (hexadecimal), with five section headers at an offset
front : ℕ → List ℕ
front offset =
    (0x7F ∷ 0x45 ∷ 0x4C ∷ 0x46 ∷ 2 ∷ 1 ∷ 1 ∷ 0 ∷ in_8 0) ++ (2 ∷ 0 ∷ 243 ∷ 0 ∷ 1 ∷ 0 ∷ 0 ∷ 0 ∷ [])
    ++ (0 ∷ 0 ∷ 1 ∷ 0 ∷ 0 ∷ 0 ∷ 0 ∷ 0 ∷ []) ++ in_8 0 ++ in_8 offset
    ++ (0 ∷ 0 ∷ 0 ∷ 0 ∷ 64 ∷ 0 ∷ 0 ∷ 0 ∷ 0 ∷ 0 ∷ 64 ∷ 0 ∷ 5 ∷ 0 ∷ 0 ∷ 0 ∷ [])

-- two instructions `ret` at 10000 and 10004 (hexadecimal), and functions `b` and `a` at 10000, `odd` at 10001 and `c` at 10004
names_file : List ℕ
names_file =
    front 208 ++ (0x67 ∷ 0x80 ∷ 0 ∷ 0 ∷ 0x67 ∷ 0x80 ∷ 0 ∷ 0 ∷ [])
    ++ replicate 24 0 ++ function 1 0 ++ function 3 0 ++ function 5 1 ++ function 9 4
    ++ (0 ∷ 98 ∷ 0 ∷ 97 ∷ 0 ∷ 111 ∷ 100 ∷ 100 ∷ 0 ∷ 99 ∷ 0 ∷ replicate 5 0)
    ++ replicate 64 0 ++ header 1 6 1 64 8 0 0 ++ header 1 2 2 72 0 0 0 ++ header 2 0 0 72 120 4 24 ++ header 3 0 0 192 11 0 0

-- a function `two` at 10002 (hexadecimal), inside the first instruction
two_file : List ℕ
two_file =
    front 128 ++ (0x13 ∷ 0 ∷ 1 ∷ 0 ∷ 0x67 ∷ 0x80 ∷ 0 ∷ 0 ∷ [])
    ++ replicate 24 0 ++ function 1 2
    ++ (0 ∷ 116 ∷ 119 ∷ 111 ∷ 0 ∷ replicate 3 0)
    ++ replicate 64 0 ++ header 1 6 1 64 8 0 0 ++ header 1 2 2 72 0 0 0 ++ header 2 0 0 72 48 4 24 ++ header 3 0 0 120 5 0 0

lengths : (length names_file ≡ 528) × (length two_file ≡ 448)
unfolding names_file two_file front function header in_8
lengths = (refl, refl)

names_seeds : seeds names_file ≡ 0x10000 ∷ 0x10004 ∷ []
unfolding all_of_it names_file front function header in_8
names_seeds = refl

names_names : (seed_name names_file 0x10000 ≡ Some (97 ∷ [])) × (seed_name names_file 0x10001 ≡ None) × (seed_name names_file 0x10004 ≡ Some (99 ∷ []))
unfolding all_of_it names_file front function header in_8
names_names = (refl, refl, refl)

two_seeds : (seeds two_file ≡ 0x10000 ∷ 0x10002 ∷ []) × (seed_name two_file 0x10000 ≡ None) × (seed_name two_file 0x10002 ≡ Some (116 ∷ 119 ∷ 111 ∷ []))
unfolding all_of_it two_file front function header in_8
two_seeds = (refl, refl, refl)

no_fault : (first_symbol_fault names_file ≡ None) × (first_symbol_fault two_file ≡ None)
unfolding all_of_it names_file two_file front function header in_8
no_fault = (refl, refl)

-- the name of the first function begins far behind the string table; the last name has no end
bad_names : (first_symbol_fault (slice_set names_file 99 0xFF) ≡ Some SymbolName) × (first_symbol_fault (slice_set names_file 202 99) ≡ Some SymbolName)
unfolding all_of_it names_file front function header in_8
bad_names = (refl, refl)

-- entries of another size, and a second symbol table, though a name is bad too
bad_tables : (first_symbol_fault (slice_set names_file 456 16) ≡ Some SymbolTable) × (first_symbol_fault (slice_set (slice_set names_file 340 2) 202 99) ≡ Some SymbolTable)
unfolding all_of_it names_file front function header in_8
bad_tables = (refl, refl)

-- the seeds of the second file as they are listed
listed : List Seed
listed = record { address = 0x10000; name = None } ∷ record { address = 0x10002; name = Some record { at = 121; len = 3 } } ∷ []

of_listed : (addresses_of listed ≡ 0x10000 ∷ 0x10002 ∷ []) × (name_in listed 0x10000 ≡ None) × (name_in listed 0x10001 ≡ None) × (name_in listed 0x10002 ≡ Some record { at = 121; len = 3 })
unfolding listed
of_listed = (refl, refl, refl, refl)

of_two : text_of two_file record { address = 0x10002; name = Some record { at = 121; len = 3 } } ≡ Some (116 ∷ 119 ∷ 111 ∷ [])
unfolding all_of_it two_file front function header in_8
of_two = refl
