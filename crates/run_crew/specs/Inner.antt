-- Words that no public clause cites: what workers are asked for, and what they answer.
use Rattle.std.specs.Prelude.{ℕ, List, Vec, Option, IfOk, IfErr, Result, All}
use Rattle.std.specs.List.Sorted.{IsStrictlyIncreasing}
use Rattle.std.specs.declared.alloc.Global.{Global}
use Rattle.std.proofs.Common.{Bor}
use Rattle.cfg_model.specs.declared.graph.Graph.{Graph}
use Rattle.cfg_model.specs.declared.live.Live.{Live}
use Rattle.std.specs.declared.alloc.AllocError.{AllocError as Memory}
use Rattle.elf_image.specs.declared.fault.ElfError.{ElfError}
use Rattle.file_graph.specs.File.{GraphedFile, IsGraphedFile}
use Rattle.file_graph.specs.Survey.{IsFaultOf}
use Rattle.live_regs.specs.Masks.{AreAllLivesOf}
use Rattle.live_regs.specs.Noted.{AreInOrder}
use Rattle.cfg_run.specs.Inner.{AnswersTexts}

-- An answer with the file with these bytes and its graph, or with the first fault of the file.
abbrev pub AnswersFile : List ℕ → Result GraphedFile ElfError → Type 0
AnswersFile bytes r = IfOk r (IsGraphedFile bytes) × IfErr r (IsFaultOf bytes)

-- A function that may be called with the bytes of any file, and gives the file with its graph: by
-- its precondition and by what it says of its answer.
abbrev pub GraphsFiles :
    (Vec ℕ Global → Type 0) → (Vec ℕ Global → Result GraphedFile ElfError → Type 0) → Type 0
GraphsFiles asks answers =
    ((bytes : Vec ℕ Global) → asks bytes)
    × ((bytes : Vec ℕ Global) (r : _) → answers bytes r → AnswersFile bytes.items r)

-- An answer with the live registers of all functions of a graph.
abbrev pub AnswersLives : List ℕ → Graph → Result (List (List Live)) Memory → Type 0
AnswersLives bytes graph r =
    IfOk r (AreAllLivesOf bytes graph.blocks graph.edges graph.functions)

-- A function that may be called with any image and a graph whose lists are in order, and gives the
-- live registers: by its precondition and by what it says of its answer.
abbrev pub FindsLives :
    (Bor (List ℕ) → Bor Graph → Type 0)
    → (Bor (List ℕ) → Bor Graph → Result (List (List Live)) Memory → Type 0) → Type 0
FindsLives asks answers =
    ((image : Bor (List ℕ)) (graph : Bor Graph) → AreInOrder graph.now.blocks graph.now.edges
    → All (λ f. IsStrictlyIncreasing f.body) graph.now.functions → asks image graph)
    × ((image : Bor (List ℕ)) (graph : Bor Graph) (r : _) → answers image graph r
    → AnswersLives image.now graph.now r)

-- A function that may be called with the lines of any report, and gives their text: by its
-- precondition and by what it says of its answer.
abbrev pub MakesTexts :
    (List ℕ → Type 0) → (List ℕ → Result (Option (Vec (Vec ℕ Global) Global)) Memory → Type 0)
    → Type 0
MakesTexts asks answers =
    ((lines : List ℕ) → asks lines)
    × ((lines : List ℕ) (r : _) → answers lines r → AnswersTexts lines r)
