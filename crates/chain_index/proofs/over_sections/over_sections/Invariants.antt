use Rattle.std.proofs.Common.{◌≡◌, vec_len}
use Rattle.elf_image.specs.Architecture.{extensions_of}
use Rattle.chain_index.proofs.Looking.{IsLeft}
use Rattle.chain_index.proofs.over_sections.over_sections.Given as goal

-- what is left is in order, and all else is found; the forms stay those of the file
abbrev pub invariant-loop-s : goal.invariant-loop-s
invariant-loop-s g l = record { left : IsLeft l.image l.left.items l.found.items; forms : l.forms ≡ extensions_of l.image }

abbrev pub decreases-loop-s : goal.decreases-loop-s
decreases-loop-s g l = vec_len l.left
