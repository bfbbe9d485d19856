-- How the machine reads and writes memory (this project's profile): words of read-only data come from
-- the file, and a byte of a code or a read-only section is never written.
use Rattle.std.specs.Prelude.{ℕ, ◌+◌, ◌*◌, ◌%◌, ◌^◌, ◌==◌, ◌&&◌, not, Bool, List}
use Rattle.std.specs.Prelude.{Option, Some, None, if◌then◌else◌}
use Rattle.std.specs.Option.{option_map, option_and_then, option_or}
use Rattle.elf_image.specs.ReadOnly.{data_word}
use Rattle.elf_image.specs.Fixed.{is_fixed}
use Rattle.rv_machine.specs.Memory.{Bytes, loaded, has_bytes}

-- the doubleword whose two halves are data words
abbrev pub data_double : List ℕ → ℕ → Option ℕ
data_double file a =
    option_and_then
    (λ low. option_map (λ high. low + 2 ^ 32 * high) (data_word file ((a + 4) % 2 ^ 64)))
    (data_word file a)

-- the read-only data of n bytes at a, where n is 4 or 8
abbrev pub data_at : List ℕ → ℕ → ℕ → Option ℕ
data_at file n a =
    if n == 4 then data_word file a else (if n == 8 then data_double file a else None)

-- the number in the n bytes at a: read-only data where it is there, else the bytes of memory
unfoldable pub read_at : List ℕ → Bytes → ℕ → ℕ → Option ℕ
read_at file memory n a = option_or (data_at file n a) (loaded n memory a)

-- a store of n bytes at a is allowed
unfoldable pub may_store : List ℕ → Bytes → ℕ → ℕ → Bool
may_store file memory n a = not (is_fixed file a n) && has_bytes n memory a
