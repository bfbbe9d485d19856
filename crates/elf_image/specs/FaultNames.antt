-- The name of a fault, as it is printed.
use Rattle.std.specs.Prelude.{ℕ, List, codes}
use Rattle.elf_image.specs.declared.fault.Fault.{Fault}
use Rattle.elf_image.specs.declared.fault.Fault.TheVariants.{TooLarge, Short, Magic, Class, Data}
use Rattle.elf_image.specs.declared.fault.Fault.TheVariants.{Version, Machine, FileType, HeaderSize}
use Rattle.elf_image.specs.declared.fault.Fault.TheVariants.{ProgramTable, Interp, NoSections}
use Rattle.elf_image.specs.declared.fault.Fault.TheVariants.{SectionTable, SectionRange}
use Rattle.elf_image.specs.declared.fault.Fault.TheVariants.{SectionWrap, CodeParity, CodeOverlap}
use Rattle.elf_image.specs.declared.fault.Fault.TheVariants.{Entry, SymbolTable, SymbolName}

abbrev pub fault_name : Fault → List ℕ
fault_name TooLarge = codes "TooLarge"
fault_name Short = codes "Short"
fault_name Magic = codes "Magic"
fault_name Class = codes "Class"
fault_name Data = codes "Data"
fault_name Version = codes "Version"
fault_name Machine = codes "Machine"
fault_name FileType = codes "Type"
fault_name HeaderSize = codes "HeaderSize"
fault_name ProgramTable = codes "ProgramTable"
fault_name Interp = codes "Interp"
fault_name NoSections = codes "NoSections"
fault_name SectionTable = codes "SectionTable"
fault_name SectionRange = codes "SectionRange"
fault_name SectionWrap = codes "SectionWrap"
fault_name CodeParity = codes "CodeParity"
fault_name CodeOverlap = codes "CodeOverlap"
fault_name Entry = codes "Entry"
fault_name SymbolTable = codes "SymbolTable"
fault_name SymbolName = codes "SymbolName"
