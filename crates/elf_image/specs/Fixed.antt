-- Bytes that no store of the running program changes: this project's profile.
use Rattle.std.specs.Prelude.{ℕ, ◌+◌, ◌%◌, ◌^◌, ◌||◌, Bool, List}
use Rattle.std.specs.List.{list_any, range_with_len}
use Rattle.elf_image.specs.Code.{is_code_byte}
use Rattle.elf_image.specs.ReadOnly.{is_read_only}

-- the byte at a lies in a code or a read-only section
abbrev pub is_fixed_byte : List ℕ → ℕ → Bool
is_fixed_byte bytes a = is_code_byte bytes a || is_read_only bytes a

-- byte i of an access at a, where addresses wrap around (RISC-V Unprivileged ISA 20240411, "Memory")
abbrev pub byte_address : ℕ → ℕ → ℕ
byte_address a i = (a + i) % 2 ^ 64

-- one of the n bytes of an access at a lies in a code or a read-only section
unfoldable pub is_fixed : List ℕ → ℕ → ℕ → Bool
is_fixed bytes a n = list_any (λ i. is_fixed_byte bytes (byte_address a i)) (range_with_len 0 n)
