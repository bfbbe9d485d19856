-- The definitions at work on small files, by computation.
use Rattle.byteorder.specs.Endian.{little_bytes}
use Rattle.std.proofs.Common.{◌≡◌, ℕ, codes, true, false, List, [], ◌∷◌, ◌++◌, length, take, replicate, refl, Option, Some, None}
use Rattle.std.specs.List.{slice_set}
use Rattle.elf_image.specs.declared.fault.Fault.{Fault}
use Rattle.elf_image.specs.declared.fault.Fault.TheVariants.{Short, Magic, Class, Data, Version, Machine, FileType, HeaderSize, ProgramTable, Interp, NoSections, SectionTable, SectionRange, SectionWrap, CodeParity, CodeOverlap, Entry, SymbolTable, SymbolName}
use Rattle.elf_image.specs.Number.{u16_at, u32_at, u64_at}
use Rattle.elf_image.specs.Header.{program_header_types}
use Rattle.elf_image.specs.Sections.{section, sections}
use Rattle.elf_image.specs.Code.{code_section_of, is_code, section_start, half_at, word_at}
use Rattle.elf_image.specs.ReadOnly.{is_read_only, data_section_of, data_word}
use Rattle.elf_image.specs.Symbols.{symbol_at, symbol_tables, is_seed_symbol, seed_symbols_in}
use Rattle.elf_image.specs.Seeds.{seeds, seed_name}
use Rattle.elf_image.specs.FaultTests.{is_too_large, is_short, has_wrong_magic, has_wrong_class, has_wrong_data, has_wrong_version, has_wrong_machine, has_wrong_type, has_wrong_header_size, has_bad_program_table, has_interpreter, has_no_sections, has_bad_section_table, has_section_out_of_file, has_wrapping_section, has_odd_code, has_code_overlap, has_entry_outside_code, has_bad_symbol_table, has_bad_symbol_name}
use Rattle.elf_image.specs.Faults.{has_fault, first_among, first_fault}

-- everything that a first fault computes with
all_of_it : Unit {0}
unfolding u16_at u32_at u64_at first_among program_header_types section sections code_section_of symbol_at symbol_tables is_seed_symbol seed_symbols_in is_too_large is_short has_wrong_magic has_wrong_class has_wrong_data has_wrong_version has_wrong_machine has_wrong_type has_wrong_header_size has_bad_program_table has_interpreter has_no_sections has_bad_section_table has_section_out_of_file has_wrapping_section has_odd_code has_code_overlap has_entry_outside_code has_bad_symbol_table has_bad_symbol_name has_fault first_fault is_read_only data_section_of seeds seed_name
all_of_it = tt

-- a number of up to 255 in the eight bytes of a field
byte_in_8 : ℕ → List ℕ
byte_in_8 b = b ∷ replicate 7 0

-- one instruction, `ret` (00008067), at the address 10000 (hexadecimal); 264 bytes
ret_file : List ℕ
ret_file =
    (0x7F ∷ 0x45 ∷ 0x4C ∷ 0x46 ∷ 2 ∷ 1 ∷ 1 ∷ 0 ∷ byte_in_8 0)
    ++ (2 ∷ 0 ∷ 243 ∷ 0 ∷ 1 ∷ 0 ∷ 0 ∷ 0 ∷ [])
    ++ (0 ∷ 0 ∷ 1 ∷ 0 ∷ 0 ∷ 0 ∷ 0 ∷ 0 ∷ [])
    ++ byte_in_8 0 ++ byte_in_8 72
    ++ (0 ∷ 0 ∷ 0 ∷ 0 ∷ 64 ∷ 0 ∷ 0 ∷ 0 ∷ 0 ∷ 0 ∷ 64 ∷ 0 ∷ 3 ∷ 0 ∷ 0 ∷ 0 ∷ [])
    ++ (0x67 ∷ 0x80 ∷ 0 ∷ 0 ∷ 0 ∷ 0 ∷ 0 ∷ 0 ∷ [])
    ++ replicate 64 0
    ++ (0 ∷ 0 ∷ 0 ∷ 0 ∷ 1 ∷ 0 ∷ 0 ∷ 0 ∷ []) ++ byte_in_8 6
    ++ (0 ∷ 0 ∷ 1 ∷ 0 ∷ 0 ∷ 0 ∷ 0 ∷ 0 ∷ []) ++ byte_in_8 64 ++ byte_in_8 4 ++ byte_in_8 0 ++ byte_in_8 2 ++ byte_in_8 0
    ++ (0 ∷ 0 ∷ 0 ∷ 0 ∷ 1 ∷ 0 ∷ 0 ∷ 0 ∷ []) ++ byte_in_8 2
    ++ (0 ∷ 0 ∷ 2 ∷ 0 ∷ 0 ∷ 0 ∷ 0 ∷ 0 ∷ []) ++ byte_in_8 72 ++ byte_in_8 0 ++ byte_in_8 0 ++ byte_in_8 4 ++ byte_in_8 0

ret_file-length : length ret_file ≡ 264
unfolding ret_file byte_in_8
ret_file-length = refl

ret_file-fault : first_fault ret_file ≡ None
unfolding all_of_it ret_file byte_in_8
ret_file-fault = refl

empty-fault : first_fault [] ≡ Some Short
unfolding all_of_it
empty-fault = refl

short-fault : first_fault (replicate 63 0) ≡ Some Short
unfolding all_of_it
short-fault = refl

zeros-fault : first_fault (replicate 64 0) ≡ Some Magic
unfolding all_of_it
zeros-fault = refl

-- the bytes with others at some offsets
edited : List (ℕ × ℕ) → List ℕ → List ℕ
edited [] bytes = bytes
edited (e ∷ es) bytes = edited es (slice_set bytes e.0 e.1)

-- the file with those bytes has that first fault
Gives : List (ℕ × ℕ) → Option Fault → Type 0
unfolding all_of_it ret_file byte_in_8 edited
Gives edits fault = first_fault (edited edits ret_file) ≡ fault

magic : Gives ((0, 0) ∷ (4, 1) ∷ []) (Some Magic)
unfolding Gives
magic = refl

class : Gives ((4, 1) ∷ []) (Some Class)
unfolding Gives
class = refl

encoding : Gives ((5, 2) ∷ []) (Some Data)
unfolding Gives
encoding = refl

version : Gives ((6, 0) ∷ []) (Some Version)
unfolding Gives
version = refl

machine : Gives ((18, 0x3E) ∷ []) (Some Machine)
unfolding Gives
machine = refl

file_type : Gives ((16, 1) ∷ []) (Some FileType)
unfolding Gives
file_type = refl

-- a position-independent file
position_independent : Gives ((16, 3) ∷ []) None
unfolding Gives
position_independent = refl

header_size : Gives ((52, 0x3F) ∷ []) (Some HeaderSize)
unfolding Gives
header_size = refl

program_table : Gives ((56, 1) ∷ []) (Some ProgramTable)
unfolding Gives
program_table = refl

-- one program header, in the place of section 0
with_program_header : Gives ((32, 0x48) ∷ (54, 0x38) ∷ (56, 1) ∷ []) None
unfolding Gives
with_program_header = refl

interpreter : Gives ((32, 0x48) ∷ (54, 0x38) ∷ (56, 1) ∷ (72, 3) ∷ []) (Some Interp)
unfolding Gives
interpreter = refl

interpreter_of_position_independent : Gives ((16, 3) ∷ (32, 0x48) ∷ (54, 0x38) ∷ (56, 1) ∷ (72, 3) ∷ []) (Some Interp)
unfolding Gives
interpreter_of_position_independent = refl

no_sections : Gives ((60, 0) ∷ []) (Some NoSections)
unfolding Gives
no_sections = refl

section_table : Gives ((58, 0x3F) ∷ []) (Some SectionTable)
unfolding Gives
section_table = refl

-- without its last byte
cut : first_fault (take 263 ret_file) ≡ Some SectionTable
unfolding all_of_it ret_file byte_in_8
cut = refl

section_range : Gives ((168, 0xFF) ∷ []) (Some SectionRange)
unfolding Gives
section_range = refl

section_wrap : Gives ((152, 0xFE) ∷ (153, 0xFF) ∷ (154, 0xFF) ∷ (155, 0xFF) ∷ (156, 0xFF) ∷ (157, 0xFF) ∷ (158, 0xFF) ∷ (159, 0xFF) ∷ []) (Some SectionWrap)
unfolding Gives
section_wrap = refl

code_parity : Gives ((152, 1) ∷ []) (Some CodeParity)
unfolding Gives
code_parity = refl

-- section 2 is code of four bytes at 10002
code_overlap : Gives ((208, 6) ∷ (216, 2) ∷ (218, 1) ∷ (232, 4) ∷ []) (Some CodeOverlap)
unfolding Gives
code_overlap = refl

entry_outside : Gives ((24, 4) ∷ []) (Some Entry)
unfolding Gives
entry_outside = refl

symbol_table : Gives ((204, 2) ∷ []) (Some SymbolTable)
unfolding Gives
symbol_table = refl

-- the reads of the file
reads : (is_code ret_file 0x10000 ≡ true) × (is_code ret_file 0x10001 ≡ false) × (is_code ret_file 0x10004 ≡ false)
unfolding all_of_it ret_file byte_in_8
reads = (refl, refl, refl)

words : (section_start ret_file 0x10002 ≡ Some 0x10000) × (half_at ret_file 0x10002 ≡ Some 0) × (word_at ret_file 0x10000 ≡ Some 0x8067) × (word_at ret_file 0x10002 ≡ None)
unfolding all_of_it ret_file byte_in_8
words = (refl, refl, refl, refl)

code_as_data : (is_read_only ret_file 0x10003 ≡ true) × (is_read_only ret_file 0x20000 ≡ false) × (data_word ret_file 0x10000 ≡ Some 0x8067)
unfolding all_of_it ret_file byte_in_8
code_as_data = (refl, refl, refl)

only_entry : (seeds ret_file ≡ 0x10000 ∷ []) × (seed_name ret_file 0x10000 ≡ None)
unfolding all_of_it ret_file byte_in_8
only_entry = (refl, refl)

-- a section header: type, flags, address, offset, size, link and entry size
entry_of : ℕ → ℕ → ℕ → ℕ → ℕ → ℕ → ℕ → List ℕ
entry_of kind flags address offset size link entry_size =
    little_bytes 4 0 ++ little_bytes 4 kind ++ little_bytes 8 flags ++ little_bytes 8 address ++ little_bytes 8 offset ++ little_bytes 8 size
    ++ little_bytes 4 link ++ little_bytes 4 0 ++ little_bytes 8 1 ++ little_bytes 8 entry_size

-- the symbol of a function in section 1: the offset of its name, and its value
function : ℕ → ℕ → List ℕ
function name value = little_bytes 4 name ++ (0x12 ∷ 0 ∷ []) ++ little_bytes 2 1 ++ little_bytes 8 value ++ little_bytes 8 0

-- two instructions `ret` at 10000 (hexadecimal), and the functions b and a there, odd at 10001 and c at 10004
named_file : List ℕ
named_file =
    (0x7F ∷ 0x45 ∷ 0x4C ∷ 0x46 ∷ 2 ∷ 1 ∷ 1 ∷ replicate 9 0)
    ++ little_bytes 2 2 ++ little_bytes 2 243 ++ little_bytes 4 1 ++ little_bytes 8 0x10000 ++ little_bytes 8 0 ++ little_bytes 8 208 ++ little_bytes 4 0
    ++ little_bytes 2 64 ++ little_bytes 2 0 ++ little_bytes 2 0 ++ little_bytes 2 64 ++ little_bytes 2 5 ++ little_bytes 2 0
    ++ little_bytes 4 0x8067 ++ little_bytes 4 0x8067
    ++ replicate 24 0 ++ function 1 0x10000 ++ function 3 0x10000 ++ function 5 0x10001 ++ function 9 0x10004
    ++ (0 ∷ codes "b") ++ (0 ∷ codes "a") ++ (0 ∷ codes "odd") ++ (0 ∷ codes "c") ++ replicate 6 0
    ++ replicate 64 0 ++ entry_of 1 6 0x10000 64 8 0 0 ++ entry_of 1 2 0x20000 72 0 0 0 ++ entry_of 2 0 0 72 120 4 24 ++ entry_of 3 0 0 192 11 0 0

named_file-length : length named_file ≡ 528
unfolding named_file function entry_of
named_file-length = refl

named_file-fault : first_fault named_file ≡ None
unfolding all_of_it named_file function entry_of
named_file-fault = refl

named_file-seeds : seeds named_file ≡ 0x10000 ∷ 0x10004 ∷ []
unfolding all_of_it named_file function entry_of
named_file-seeds = refl

named_file-names : (seed_name named_file 0x10000 ≡ Some (codes "a")) × (seed_name named_file 0x10004 ≡ Some (codes "c")) × (seed_name named_file 0x10001 ≡ None)
unfolding all_of_it named_file function entry_of
named_file-names = (refl, refl, refl)

Names : List (ℕ × ℕ) → Option Fault → Type 0
unfolding all_of_it named_file function entry_of edited
Names edits fault = first_fault (edited edits named_file) ≡ fault

-- a name past the string table, at its end, on its last zero byte, and without one
name_far : Names ((96, 0xFF) ∷ (97, 0xFF) ∷ (98, 0xFF) ∷ (99, 0xFF) ∷ []) (Some SymbolName)
unfolding Names
name_far = refl

name_end : (Names ((96, 11) ∷ []) (Some SymbolName)) × (Names ((96, 10) ∷ []) None) × (Names ((496, 10) ∷ []) (Some SymbolName))
unfolding Names
name_end = (refl, refl, refl)

-- a symbol that is no function, or of no code section, is passed over
no_seed : (Names ((96, 0xFF) ∷ (100, 0x11) ∷ []) None) × (Names ((96, 0xFF) ∷ (102, 2) ∷ []) None) × (Names ((96, 0xFF) ∷ (102, 0) ∷ []) None)
unfolding Names
no_seed = (refl, refl, refl)

-- entries of another size, a size that is no multiple of it, a link to no string table or to no section, and a second table
bad_table : (Names ((456, 23) ∷ []) (Some SymbolTable)) × (Names ((432, 121) ∷ []) (Some SymbolTable)) × (Names ((440, 3) ∷ []) (Some SymbolTable)) × (Names ((440, 5) ∷ []) (Some SymbolTable)) × (Names ((340, 2) ∷ []) (Some SymbolTable))
unfolding Names
bad_table = (refl, refl, refl, refl, refl)
