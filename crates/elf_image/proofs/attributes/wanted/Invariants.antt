use Rattle.std.proofs.Common.{◌≡◌, ◌≤◌, ℕ, length}
use Rattle.elf_image.specs.Attributes as spec
use Rattle.elf_image.specs.Inner.Attributes.{reader}
use Rattle.elf_image.proofs.attributes.wanted.Given as goal

-- what is left gives the answer
abbrev pub invariant-loop-r : goal.invariant-loop-r
invariant-loop-r l =
    (n : ℕ) × (length l.rest ≤ n) × (spec.first_wanted (reader l.kind) n l.rest ≡ spec.wanted (reader l.kind) l.bytes)

abbrev pub decreases-loop-r : goal.decreases-loop-r
decreases-loop-r l = length l.rest
