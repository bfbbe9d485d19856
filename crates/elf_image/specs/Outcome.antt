-- What a refusal says.
use Rattle.std.specs.Prelude.{⊤}
use Rattle.elf_image.specs.declared.fault.Fault.{Fault}
use Rattle.elf_image.specs.declared.fault.ElfError.{ElfError}
use Rattle.elf_image.specs.declared.fault.ElfError.TheVariants.{Malformed, Memory}

-- P of the fault that is named, and nothing if memory ran out
abbrev pub IfMalformed : ElfError → (Fault → Type 0) → Type 0
IfMalformed (Malformed fault) P = P fault
IfMalformed Memory P = ⊤
