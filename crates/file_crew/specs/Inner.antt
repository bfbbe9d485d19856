-- Words that need not be read: what workers answer who do the steps to a graph.
use Rattle.std.specs.Prelude.{ℕ, List, IfOk, IfErr, Result}
use Rattle.std.proofs.Common.{Bor}
use Rattle.cfg_model.specs.Program.Reach.{AreSeeds}
use Rattle.cfg_model.specs.Program.Instructions.{InstructionMap}
use Rattle.cfg_model.specs.Graph.Graph.{IsGraph}
use Rattle.cfg_model.specs.declared.graph.Graph.{Graph}
use Rattle.code_view.specs.declared.code.Code.{Code}
use Rattle.code_view.specs.FileCode.{FileCode, program_of}
use Rattle.code_view.specs.declared.tables.AllTables.{AllTables}
use Rattle.code_view.specs.Tables.{AreAllTables}
use Rattle.reached_terms.specs.Reached.{Reach}
use Rattle.file_graph.specs.Reach.{IsReachOf}
use Rattle.elf_image.specs.declared.fault.ElfError.{ElfError}
use Rattle.elf_symbols.specs.declared.seed.Seed.{Seed}
use Rattle.std.specs.declared.alloc.AllocError.{AllocError as Memory}
use Rattle.file_graph.specs.declared.survey.Survey.{Survey}
use Rattle.file_program.specs.FileSeeds.{AreSeedsOf}
use Rattle.file_graph.specs.Survey.{IsFaultOf, IsSurveyOf}

-- An answer with the seeds of a file, or with the fault of its symbols if it names one.
abbrev pub AnswersSeeds : List ℕ → Result (List Seed) ElfError → Type 0
AnswersSeeds bytes r = IfOk r (AreSeedsOf bytes) × IfErr r (IsFaultOf bytes)

-- An answer with the survey of a file, or with the fault of its symbols if it names one.
abbrev pub AnswersSurvey : List ℕ → Result Survey ElfError → Type 0
AnswersSurvey bytes r = IfOk r (IsSurveyOf bytes) × IfErr r (IsFaultOf bytes)

-- An answer with what a program reaches from its seeds.
abbrev pub AnswersReach : FileCode → List ℕ → Result Reach Memory → Type 0
AnswersReach code seeds r = IfOk r (IsReachOf code seeds)

-- An answer with the graph of a program with this entry.
abbrev pub AnswersGraph : InstructionMap → List ℕ → ℕ → Result Graph Memory → Type 0
AnswersGraph map seeds entry r = IfOk r (IsGraph map seeds entry)

-- A function that may be called with any image, and gives the survey of the file: by its
-- precondition and by what it says of its answer.
abbrev pub Surveys :
    (Bor (List ℕ) → Type 0) → (Bor (List ℕ) → Result Survey ElfError → Type 0) → Type 0
Surveys asks answers =
    ((image : Bor (List ℕ)) → asks image)
    × ((image : Bor (List ℕ)) (r : _) → answers image r → AnswersSurvey image.now r)

-- A function that may be called with any program of a file, and gives all jump tables of the file:
-- by its precondition and by what it says of its answer.
abbrev pub Searches :
    (Bor Code → Type 0) → (Bor Code → Result AllTables Memory → Type 0) → Type 0
Searches asks answers =
    ((code : Bor Code) → asks code)
    × ((code : Bor Code) (r : _) → answers code r
    → IfOk r (AreAllTables code.now.bytes))

-- A function that may be called with any program of a file and its seeds, and gives what the program
-- reaches: by its precondition and its answer, as above.
abbrev pub Follows :
    (Bor Code → Bor (List ℕ) → Type 0)
    → (Bor Code → Bor (List ℕ) → Result Reach Memory → Type 0) → Type 0
Follows asks answers =
    ((code : Bor Code) (seeds : Bor (List ℕ))
    → AreSeeds (program_of code.now) seeds.now → asks code seeds)
    × ((code : Bor Code) (seeds : Bor (List ℕ)) (r : _)
    → answers code seeds r → AnswersReach code.now seeds.now r)

-- A function that may be called with any program of a file, its seeds, the entry and what the program
-- reaches, and gives the graph: by its precondition and its answer, as above.
abbrev pub Draws :
    (Bor Code → Bor (List ℕ) → ℕ → Bor Reach → Type 0)
    → (Bor Code → Bor (List ℕ) → ℕ → Bor Reach → Result Graph Memory → Type 0) → Type 0
Draws asks answers =
    ((code : Bor Code) (seeds : Bor (List ℕ)) (entry : ℕ) (reached : Bor Reach)
    → AreSeeds (program_of code.now) seeds.now → IsReachOf code.now seeds.now reached.now
    → asks code seeds entry reached)
    × ((code : Bor Code) (seeds : Bor (List ℕ)) (entry : ℕ) (reached : Bor Reach) (r : _)
    → answers code seeds entry reached r
    → AnswersGraph (program_of code.now) seeds.now entry r)
