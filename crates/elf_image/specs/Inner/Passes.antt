-- The faults of an image, in the order of `image_faults`, as the passes of the parse judge them.
use Rattle.std.specs.Prelude.{List, [], ◌∷◌}
use Rattle.elf_image.specs.declared.fault.Fault.{Fault}
use Rattle.elf_image.specs.declared.fault.Fault.TheVariants.{TooLarge, Short, Magic, Class, Data}
use Rattle.elf_image.specs.declared.fault.Fault.TheVariants.{Version, Machine, FileType, HeaderSize}
use Rattle.elf_image.specs.declared.fault.Fault.TheVariants.{ProgramTable, Interp, NoSections}
use Rattle.elf_image.specs.declared.fault.Fault.TheVariants.{SectionTable, SectionRange}
use Rattle.elf_image.specs.declared.fault.Fault.TheVariants.{SectionWrap, CodeParity, CodeOverlap}
use Rattle.elf_image.specs.declared.fault.Fault.TheVariants.{Entry}

-- size and identification
abbrev pub ident_faults : List Fault
ident_faults = TooLarge ∷ Short ∷ Magic ∷ Class ∷ Data ∷ []

-- the other fields of the header
abbrev pub header_faults : List Fault
header_faults = Version ∷ Machine ∷ FileType ∷ HeaderSize ∷ []

-- the two tables
abbrev pub table_faults : List Fault
table_faults = ProgramTable ∷ Interp ∷ NoSections ∷ SectionTable ∷ []

-- one section at a time
abbrev pub section_faults : List Fault
section_faults = SectionRange ∷ SectionWrap ∷ CodeParity ∷ []

-- all code sections
abbrev pub code_faults : List Fault
code_faults = CodeOverlap ∷ Entry ∷ []
