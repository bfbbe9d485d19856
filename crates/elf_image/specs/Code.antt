-- Code addresses and the instruction bytes at them: this project's profile. Instructions stand at
-- even addresses (RISC-V Unprivileged ISA 20240411, "Base Instruction-Length Encoding": parcels of
-- 16 bits).
use Rattle.std.specs.Prelude.{ℕ, ◌%◌, ◌==◌, ◌&&◌, Bool, List, is_some, if◌then◌else◌}
use Rattle.std.specs.List.{find, list_any}
use Rattle.std.specs.Option.{option_map, option_and_then}
use Rattle.std.specs.declared.option.Option.{Option}
use Rattle.std.specs.declared.option.Option.TheVariants.{None, Some}
use Rattle.elf_image.specs.declared.section.Section.{Section}
use Rattle.elf_image.specs.Number.{u16_at, u32_at}
use Rattle.elf_image.specs.Sections.{sections, is_code_section, holds_bytes, file_offset}

abbrev pub is_even : ℕ → Bool
is_even a = a % 2 == 0

-- a code section that has both bytes of the halfword at a, if a is even
abbrev pub is_code_section_of : ℕ → Section → Bool
is_code_section_of a s = is_code_section s && holds_bytes a 2 s

-- the code section of a code address: an even address whose two bytes lie inside one code section
unfoldable pub code_section_of : List ℕ → ℕ → Option Section
code_section_of bytes a = if is_even a then find (is_code_section_of a) (sections bytes) else None

-- a is a code address
abbrev pub is_code : List ℕ → ℕ → Bool
is_code bytes a = is_some (code_section_of bytes a)

-- the byte at a, of an even or an odd address, lies in a code section
abbrev pub is_code_section_at : ℕ → Section → Bool
is_code_section_at a s = is_code_section s && holds_bytes a 1 s

unfoldable pub is_code_byte : List ℕ → ℕ → Bool
is_code_byte bytes a = list_any (is_code_section_at a) (sections bytes)

-- the address of the code section of a code address
abbrev pub section_start : List ℕ → ℕ → Option ℕ
section_start bytes a = option_map (λ s. s.address) (code_section_of bytes a)

-- the halfword at a code address
abbrev pub half_at : List ℕ → ℕ → Option ℕ
half_at bytes a = option_map (λ s. u16_at bytes (file_offset s a)) (code_section_of bytes a)

-- the word at a code address, if its four bytes lie inside the code section
abbrev pub word_in : List ℕ → ℕ → Section → Option ℕ
word_in bytes a s = if holds_bytes a 4 s then Some (u32_at bytes (file_offset s a)) else None

abbrev pub word_at : List ℕ → ℕ → Option ℕ
word_at bytes a = option_and_then (word_in bytes a) (code_section_of bytes a)
