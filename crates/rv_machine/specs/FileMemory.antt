-- The memory of a file when its program starts (this project's profile): the bytes of its sections
-- (System V ABI, "Section Header"), and 65,536 zero bytes of stack.
use Rattle.std.specs.Prelude.{ℕ, ◌&&◌, not, nat_le, nat_lt, Bool, List, [], ◌∷◌, ◌++◌, map, sum_by}
use Rattle.std.specs.Prelude.{slice_index, Some, None, if◌then◌else◌}
use Rattle.std.specs.List.{filter}
use Rattle.std.specs.Option.{option_or}
use Rattle.elf_image.specs.declared.section.Section.{Section}
use Rattle.elf_image.specs.Sections.{sections, is_null, is_nobits, is_allocated, holds_bytes}
use Rattle.elf_image.specs.Sections.{file_offset}
use Rattle.rv_machine.specs.Memory.{Bytes}

-- a section that takes up memory
abbrev pub is_loaded : Section → Bool
is_loaded s = is_allocated s && not (is_null s)

-- its byte at the address a: zero where it has none in the file
abbrev pub section_byte : List ℕ → Section → ℕ → ℕ
section_byte file s a = if is_nobits s then 0 else slice_index file (file_offset s a)

abbrev pub section_bytes : List ℕ → Section → Bytes
section_bytes file s a = if holds_bytes a 1 s then Some (section_byte file s a) else None

-- 65,536 zero bytes from 7FFE0000 on
abbrev pub stack_bytes : Bytes
stack_bytes a = if nat_le 0x7FFE_0000 a && nat_lt a 0x7FFF_0000 then Some 0 else None

-- of several memories, the first that has the address counts
abbrev pub first_of : List Bytes → Bytes
first_of [] a = None
first_of (memory ∷ memories) a = option_or (memory a) (first_of memories a)

-- the sections that take up memory, in table order
abbrev pub loaded_sections : List ℕ → List Section
loaded_sections file = filter is_loaded (sections file)

-- the stack comes after all sections
unfoldable pub file_memory : List ℕ → Bytes
file_memory file = first_of (map (section_bytes file) (loaded_sections file) ++ stack_bytes ∷ [])

-- the sections ask for more than 256 MiB
unfoldable pub is_too_much : List ℕ → Bool
is_too_much file = nat_lt 268435456 (sum_by (λ s. s.size) (loaded_sections file))
