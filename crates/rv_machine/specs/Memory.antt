-- Memory is a finite map from addresses to bytes. Numbers are little-endian, and addresses wrap around
-- (RISC-V Unprivileged ISA 20240411, sections 1.4 and 2.6).
use Rattle.std.specs.Prelude.{ℕ, zero, suc, ◌+◌, ◌*◌, ◌/◌, ◌%◌, ◌^◌, ◌==◌, ◌&&◌, Bool, true}
use Rattle.std.specs.Prelude.{Option, Some, None, is_some, if◌then◌else◌}
use Rattle.std.specs.Option.{option_map, option_and_then}

abbrev pub Bytes : Type 0
Bytes = ℕ → Option ℕ

-- the address after a
abbrev pub next_byte : ℕ → ℕ
next_byte a = (a + 1) % 2 ^ 64

-- the number that the n bytes from a on spell, where all of them are there
abbrev pub loaded : ℕ → Bytes → ℕ → Option ℕ
loaded zero memory a = Some 0
loaded (suc n) memory a =
    option_and_then (λ low. option_map (λ high. low + 256 * high) (loaded n memory (next_byte a)))
    (memory a)

-- all n bytes from a on are there
abbrev pub has_bytes : ℕ → Bytes → ℕ → Bool
has_bytes zero memory a = true
has_bytes (suc n) memory a = is_some (memory a) && has_bytes n memory (next_byte a)

-- one byte written; where none is there, nothing changes
abbrev pub put : Bytes → ℕ → ℕ → Bytes
put memory a byte b = if b == a then option_map (λ _. byte) (memory b) else memory b

-- the low n bytes of a number, written from a on
abbrev pub stored : ℕ → Bytes → ℕ → ℕ → Bytes
stored zero memory a value = memory
stored (suc n) memory a value = stored n (put memory a (value % 256)) (next_byte a) (value / 256)
