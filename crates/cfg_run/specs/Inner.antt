-- Words that no public clause cites: what the steps of a run answer one another.
use Rattle.std.specs.Prelude.{◌≡◌, ℕ, List, Vec, Option, Some, None, IfSome, IfOk}
use Rattle.std.specs.Prelude.{Result, Ok, Err}
use Rattle.std.specs.declared.alloc.Global.{Global}
use Rattle.std.specs.declared.alloc.AllocError.{AllocError as Memory}
use Rattle.parallel.specs.Lists.{all_in}
use Rattle.elf_image.specs.Faults.{first_fault}
use Rattle.cfg_words.specs.Request.{Asked}
use Rattle.run_ends.specs.Inputs.{OverInput}
use Rattle.cfg_run.specs.declared.refusal.Refusal.{Refusal}
use Rattle.cfg_run.specs.declared.refusal.Refusal.TheVariants as refusals
use Rattle.cfg_run.specs.declared.status.Status.{Status}
use Rattle.cfg_run.specs.declared.status.Status.TheVariants as statuses
use Rattle.cfg_run.specs.Refusal.{status_of}
use Rattle.cfg_run.specs.Words.{path_of, IsForFile}
use Rattle.cfg_run.specs.Answer.{IsAnswer, refused_with}

-- An answer with texts that follow each other and are this text; or with none, if it is to be made
-- while it is written.
abbrev pub AnswersTexts : List ℕ → Result (Option (Vec (Vec ℕ Global) Global)) Memory → Type 0
AnswersTexts text r = IfOk r (λ made. IfSome made (λ texts. all_in texts.items ≡ text))

-- How a run ends after this step, if no later one fails.
abbrev pub end_of : {X : Type 0} → Result X Refusal → Status
end_of (Ok x) = statuses.Done
end_of (Err refusal) = status_of refusal

-- The refusal is the fault of these bytes, or want of memory.
abbrev pub IsRefusalOf : List ℕ → Refusal → Type 0
IsRefusalOf bytes refusals.Usage = ⊥
IsRefusalOf bytes (refusals.Malformed fault) = first_fault bytes ≡ Some fault
IsRefusalOf bytes refusals.ReadFault = ⊥
IsRefusalOf bytes refusals.WriteFault = ⊥
IsRefusalOf bytes refusals.Memory = Unit {0}

-- The refusal is true of what is asked for and of the bytes, if the input tells them. Only a file
-- can be malformed or not be read. A call of the input failed if it was not read. No step before
-- the writing answers that it failed.
abbrev pub IsTrueOf : Option Asked → Option (List ℕ) → Type 0 → Refusal → Type 0
IsTrueOf asked told rose refusals.Usage = asked ≡ None
IsTrueOf asked told rose (refusals.Malformed fault) = IsForFile asked
    × OverInput (path_of asked) told
    (λ bytes. IsAnswer bytes asked (refused_with (refusals.Malformed fault)))
IsTrueOf asked told rose refusals.ReadFault = IsForFile asked × rose
IsTrueOf asked told rose refusals.WriteFault = ⊥
IsTrueOf asked told rose refusals.Memory = Unit {0}
