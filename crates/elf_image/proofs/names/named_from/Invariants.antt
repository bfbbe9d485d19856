use Rattle.std.proofs.Common.{◌≡◌, ◌≤◌, ℕ, List, ◌++◌, length}
use Rattle.std.specs.Option.{option_map}
use Rattle.elf_image.specs.Architecture as spec
use Rattle.elf_image.specs.Inner.Architecture.{lower}
use Rattle.elf_image.proofs.names.named_from.Given as goal

-- some names were read, and what is left gives the others
abbrev pub invariant-loop-first : goal.invariant-loop-first
invariant-loop-first l =
    (n : ℕ)
    × (seen : List (List ℕ))
    × (length l.rest ≤ n)
    × (l.found ≡ spec.all_named seen)
    × (spec.names_from (length l.part) (lower l.part) ≡ option_map (λ names. seen ++ names) (spec.names_from n (lower l.rest)))

abbrev pub decreases-loop-first : goal.decreases-loop-first
decreases-loop-first l = length l.rest
