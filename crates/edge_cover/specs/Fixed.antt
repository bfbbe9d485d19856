-- What the machine never writes: the bytes of code sections and of read-only sections.
use Rattle.std.specs.Prelude.{◌≡◌, ℕ, ◌<◌, ◌^◌, IsTrue, List}
use Rattle.elf_image.specs.Fixed.{is_fixed_byte}
use Rattle.rv_machine.specs.State.{State}
use Rattle.rv_machine.specs.Memory.{Bytes}
use Rattle.edge_cover.specs.Runs.{GoesOn}

-- After any number of steps the byte at an address in a code section or a read-only section is what
-- it was.
abbrev pub FixedBytesStay : Type 0
FixedBytesStay =
    (bytes : List ℕ) (state last : State) (memory end : Bytes)
    → GoesOn bytes state memory last end
    → (a : ℕ) → a < 2 ^ 64 → IsTrue (is_fixed_byte bytes a) → end a ≡ memory a
