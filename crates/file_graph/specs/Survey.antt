-- The survey of a file, and why there is none.
use Rattle.std.specs.Prelude.{◌≡◌, ℕ, List, Some}
use Rattle.chain_index.specs.Found.{AreChainEndsOf}
use Rattle.elf_image.specs.declared.fault.ElfError.{ElfError}
use Rattle.elf_image.specs.Faults.{first_fault}
use Rattle.elf_image.specs.Outcome.{IfMalformed}
use Rattle.file_program.specs.FileSeeds.{AreSeedsOf}
use Rattle.file_graph.specs.declared.survey.Survey.{Survey}

-- The survey of a file: its seeds, and the reaches of its chains.
pub record IsSurveyOf (bytes : List ℕ) (survey : Survey) : Type 0 where
  pub seeds : AreSeedsOf bytes survey.seeds
  pub reaches : AreChainEndsOf bytes survey.reaches

-- The error names the first fault of these bytes, or it is want of memory.
abbrev pub IsFaultOf : List ℕ → ElfError → Type 0
IsFaultOf bytes e = IfMalformed e (λ fault. first_fault bytes ≡ Some fault)
