-- The bytes that a `Regions` keeps: those of the part that has the address.
use Rattle.std.specs.Prelude.{map}
use Rattle.rv_machine.specs.declared.regions.Regions.{Regions}
use Rattle.rv_machine.specs.Memory.{Bytes}
use Rattle.rv_machine.specs.FileMemory.{first_of}
use Rattle.rv_machine.specs.Inner.Parts.{part_bytes}

abbrev pub bytes_of : Regions → Bytes
bytes_of regions = first_of (map part_bytes regions.parts.items)
