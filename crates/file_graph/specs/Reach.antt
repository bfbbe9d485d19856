-- What the program of a file reaches from its seeds.
use Rattle.std.specs.Prelude.{ℕ, List}
use Rattle.chain_index.specs.Numbers.{codes_below}
use Rattle.code_view.specs.FileCode.{FileCode, program_of}
use Rattle.reached_terms.specs.Reached.{AreReachedTerms, Reach}

-- These marks, by the numbers of the code's addresses, tell what the program reaches from the seeds.
abbrev pub IsReachOf : FileCode → List ℕ → Reach → Type 0
IsReachOf code seeds reach =
    AreReachedTerms (program_of code) (codes_below code.bytes) seeds reach
