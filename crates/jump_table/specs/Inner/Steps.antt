-- The straight instructions before a jump.
use Rattle.std.specs.Prelude.{◌≡◌, ℕ, ◌+◌, ◌-◌, ◌*◌, ◌<◌, ◌≤◌, true, List}
use Rattle.std.specs.Prelude.{Option, None, IfSome, IfNone, length, get_or}
use Rattle.rv_flow.specs.Placed.{placed_at}
use Rattle.jump_table.specs.declared.step.Step.{Step}
use Rattle.jump_table.specs.Section.{goes_on, straight_run}

-- A step is the instruction this many parcels before the jump, and the next one is where it goes
-- on.
pub record IsStep (bytes : List ℕ) (start j parcels : ℕ) (step : Step) : Type 0 where
  pub straight : goes_on bytes start (j - 2 * parcels) ≡ true
  pub insn : step.insn ≡ (placed_at bytes (j - 2 * parcels)).insn
  pub next : j - 2 * parcels + (placed_at bytes (j - 2 * parcels)).length ≡ j - 2 * step.next
  pub nearer : step.next < parcels

-- No straight run leads from there to the jump.
abbrev pub LeadsNowhere : List ℕ → ℕ → ℕ → ℕ → Type 0
LeadsNowhere bytes start j parcels = (n : ℕ) → straight_run bytes start j n (j - 2 * parcels) ≡ None

-- The step this many parcels before the jump, or none if no straight run leads from there to it.
pub record IsStepAt (bytes : List ℕ) (start j parcels : ℕ) (step : Option Step) : Type 0 where
  pub leads : IfSome step (IsStep bytes start j parcels)
  pub nowhere : IfNone step (LeadsNowhere bytes start j parcels)

-- The steps of a list, below n parcels before the jump, are those that lead there; further ones are
-- not known.
pub record AreStepsBelow (bytes : List ℕ) (start j n : ℕ)
    (steps : List (Option Step)) : Type 0 where
  pub sized : length steps ≡ 33
  pub near : (k : ℕ) → 0 < k → k < n → start + 2 * k ≤ j
      → IsStepAt bytes start j k (get_or steps k None)
  pub far : (k : ℕ) → n ≤ k → get_or steps k None ≡ None

-- The steps up to 32 parcels before the jump.
abbrev pub AreSteps : List ℕ → ℕ → ℕ → List (Option Step) → Type 0
AreSteps bytes start j steps = AreStepsBelow bytes start j 33 steps
