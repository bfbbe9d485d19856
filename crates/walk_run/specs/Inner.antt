-- Words that no public clause cites: what the steps of a run answer one another.
use Rattle.std.specs.Prelude.{◌≡◌, ℕ, List, Option, Some, None, IfSome, Result, Ok, Err}
use Rattle.elf_image.specs.Faults.{first_fault}
use Rattle.walk_run.specs.declared.refusal.Refusal.{Refusal}
use Rattle.walk_run.specs.declared.refusal.Refusal.TheVariants as refusals
use Rattle.walk_run.specs.declared.status.WalkStatus.{WalkStatus}
use Rattle.walk_run.specs.declared.status.WalkStatus.TheVariants as statuses
use Rattle.walk_run.specs.declared.words.Request.{Request}
use Rattle.walk_run.specs.Words.{Asked, of_walk, AsksWalk}
use Rattle.walk_run.specs.Refusal.{status_of}
use Rattle.walk_run.specs.Answer.{IsAnswer, AsksTooMuch, refused_with}

-- The walk that a value of the program's own type asks for.
abbrev pub asked : Request → Asked
asked request = of_walk request.steps request.path.now

-- How a run ends after this step, if no later one fails.
abbrev pub end_of : {X : Type 0} → Result X Refusal → WalkStatus
end_of (Ok x) = statuses.Done
end_of (Err refusal) = status_of refusal

-- The refusal is true of the file with these bytes, or it is want of memory.
abbrev pub IsRefusalOf : List ℕ → Refusal → Type 0
IsRefusalOf bytes refusals.Usage = ⊥
IsRefusalOf bytes (refusals.Malformed fault) = first_fault bytes ≡ Some fault
IsRefusalOf bytes refusals.ReadFault = ⊥
IsRefusalOf bytes refusals.WriteFault = ⊥
IsRefusalOf bytes refusals.Memory = Unit {0}
IsRefusalOf bytes refusals.TooMuch = AsksTooMuch bytes

-- The refusal is true of what is asked for and of the bytes, if the input tells them. A call of the
-- input failed if the file was not read. No step before the writing answers that it failed.
abbrev pub IsTrueOf : Option Asked → Option (List ℕ) → Type 0 → Refusal → Type 0
IsTrueOf asked told rose refusals.Usage = asked ≡ None
IsTrueOf asked told rose (refusals.Malformed fault) = AsksWalk asked
    × IfSome told (λ bytes. IsAnswer bytes asked (refused_with (refusals.Malformed fault)))
IsTrueOf asked told rose refusals.ReadFault = AsksWalk asked × rose
IsTrueOf asked told rose refusals.WriteFault = ⊥
IsTrueOf asked told rose refusals.Memory = Unit {0}
IsTrueOf asked told rose refusals.TooMuch = AsksWalk asked
    × IfSome told (λ bytes. IsAnswer bytes asked (refused_with refusals.TooMuch))
