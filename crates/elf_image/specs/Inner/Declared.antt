-- Declared tables as they are kept to be searched. No public clause names what stands here.
use Rattle.std.specs.Prelude.{◌≡◌, ℕ, ◌==◌, List}
use Rattle.std.specs.List.{find}
use Rattle.std.specs.List.Sorted.{IsNonDecreasingBy}
use Rattle.elf_image.specs.declared.declared.DeclaredTable.{DeclaredTable}

-- the same tables in the order of their jumps: of each jump the same one is the first
pub record IsByJump (tables kept : List DeclaredTable) : Type 0 where
  pub rises : IsNonDecreasingBy (λ t. t.jump) kept
  pub same : (j : ℕ) → find (λ t. t.jump == j) kept ≡ find (λ t. t.jump == j) tables
