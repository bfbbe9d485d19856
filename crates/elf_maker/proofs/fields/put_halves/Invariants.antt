use Rattle.std.proofs.Common.{◌≡◌, ◌++◌, take}
use Rattle.std.specs.List.{flat_map}
use Rattle.byteorder.specs.Endian.{little_bytes}
use Rattle.elf_maker.proofs.fields.put_halves.Given as goal

-- the fields up to here stand behind the file as it was
abbrev pub invariant-loop-field : goal.invariant-loop-field
invariant-loop-field l = l.file.items ≡ l.initial.file.items ++ flat_map (little_bytes 2) (take l.field-index l.fields)
