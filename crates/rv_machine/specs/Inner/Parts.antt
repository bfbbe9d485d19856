-- The bytes of a part of memory, and those of a section, one after the other.
use Rattle.std.specs.Prelude.{ℕ, ◌+◌, ◌-◌, ◌&&◌, nat_le, nat_lt, Bool, length, slice_index}
use Rattle.std.specs.Prelude.{List, take, drop, replicate, Some, None, if◌then◌else◌}
use Rattle.elf_image.specs.declared.section.Section.{Section}
use Rattle.elf_image.specs.Sections.{is_nobits}
use Rattle.rv_machine.specs.declared.part.Part.{Part}
use Rattle.rv_machine.specs.Memory.{Bytes}

-- a part has the address
abbrev pub has_address : ℕ → Part → Bool
has_address a part = nat_le part.start a && nat_lt a (part.start + length part.bytes.items)

abbrev pub part_bytes : Part → Bytes
part_bytes part a =
    if has_address a part then Some (slice_index part.bytes.items (a - part.start)) else None

abbrev pub section_items : List ℕ → Section → List ℕ
section_items file s =
    if is_nobits s then replicate s.size 0 else take s.size (drop s.offset file)
