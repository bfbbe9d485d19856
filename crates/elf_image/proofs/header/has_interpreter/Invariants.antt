use Rattle.std.proofs.Common.{◌≡◌, ℕ, ◌<◌, false, eqb}
use Rattle.elf_image.specs.Header as header
use Rattle.elf_image.proofs.header.has_interpreter.Given as goal

abbrev pub invariant-loop-i : goal.invariant-loop-i
invariant-loop-i l = (k : ℕ) → k < l.i → eqb (header.program_header_type l.bytes k) 3 ≡ false
