-- The first fault of a file. The order of the faults is this project's profile.
use Rattle.std.specs.Prelude.{◌≡◌, ℕ, Bool, List, [], ◌∷◌, ◌++◌}
use Rattle.std.specs.List.{find}
use Rattle.std.specs.declared.option.Option.{Option}
use Rattle.std.specs.declared.option.Option.TheVariants.{None}
use Rattle.elf_image.specs.declared.fault.Fault.{Fault}
use Rattle.elf_image.specs.declared.fault.Fault.TheVariants.{TooLarge, Short, Magic, Class, Data}
use Rattle.elf_image.specs.declared.fault.Fault.TheVariants.{Version, Machine, FileType, HeaderSize}
use Rattle.elf_image.specs.declared.fault.Fault.TheVariants.{ProgramTable, Interp, NoSections}
use Rattle.elf_image.specs.declared.fault.Fault.TheVariants.{SectionTable, SectionRange}
use Rattle.elf_image.specs.declared.fault.Fault.TheVariants.{SectionWrap, CodeParity, CodeOverlap}
use Rattle.elf_image.specs.declared.fault.Fault.TheVariants.{Entry, SymbolTable, SymbolName}
use Rattle.elf_image.specs.FaultTests as test

-- the test of a fault
unfoldable pub has_fault : List ℕ → Fault → Bool
has_fault bytes TooLarge = test.is_too_large bytes
has_fault bytes Short = test.is_short bytes
has_fault bytes Magic = test.has_wrong_magic bytes
has_fault bytes Class = test.has_wrong_class bytes
has_fault bytes Data = test.has_wrong_data bytes
has_fault bytes Version = test.has_wrong_version bytes
has_fault bytes Machine = test.has_wrong_machine bytes
has_fault bytes FileType = test.has_wrong_type bytes
has_fault bytes HeaderSize = test.has_wrong_header_size bytes
has_fault bytes ProgramTable = test.has_bad_program_table bytes
has_fault bytes Interp = test.has_interpreter bytes
has_fault bytes NoSections = test.has_no_sections bytes
has_fault bytes SectionTable = test.has_bad_section_table bytes
has_fault bytes SectionRange = test.has_section_out_of_file bytes
has_fault bytes SectionWrap = test.has_wrapping_section bytes
has_fault bytes CodeParity = test.has_odd_code bytes
has_fault bytes CodeOverlap = test.has_code_overlap bytes
has_fault bytes Entry = test.has_entry_outside_code bytes
has_fault bytes SymbolTable = test.has_bad_symbol_table bytes
has_fault bytes SymbolName = test.has_bad_symbol_name bytes

-- the faults of an image, and those of its symbols, in order
abbrev pub image_faults : List Fault
image_faults =
    TooLarge ∷ Short ∷ Magic ∷ Class ∷ Data ∷ Version ∷ Machine ∷ FileType ∷ HeaderSize
    ∷ ProgramTable ∷ Interp ∷ NoSections
    ∷ SectionTable ∷ SectionRange ∷ SectionWrap ∷ CodeParity ∷ CodeOverlap ∷ Entry ∷ []

abbrev pub symbol_faults : List Fault
symbol_faults = SymbolTable ∷ SymbolName ∷ []

-- the first fault of a file among some, if it has one of them
unfoldable pub first_among : List Fault → List ℕ → Option Fault
first_among faults bytes = find (has_fault bytes) faults

unfoldable pub first_image_fault : List ℕ → Option Fault
first_image_fault bytes = first_among image_faults bytes

unfoldable pub first_symbol_fault : List ℕ → Option Fault
first_symbol_fault bytes = first_among symbol_faults bytes

-- the first fault of a file among all twenty
unfoldable pub first_fault : List ℕ → Option Fault
first_fault bytes = first_among (image_faults ++ symbol_faults) bytes

-- the bytes of a file that `Image::parse` accepts: it has at most a fault of its symbols
abbrev pub IsImage : List ℕ → Type 0
IsImage bytes = first_image_fault bytes ≡ None
