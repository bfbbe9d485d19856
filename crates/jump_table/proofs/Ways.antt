-- The steps in front of a jump.
use Rattle.std.proofs.Common.{◌≡◌, ◌≢◌, ℕ, zero, suc, ◌+◌, ◌-◌, ◌*◌, ◌/◌, ◌<◌, ◌≤◌, ◌⊎◌, Bool, true, false, cond, List, [], ◌∷◌, length, get_or, Option, Some, None, refl, sym, ap, ◌∙◌, subst, inl, inr, arith}
use Rattle.std.specs.Prelude.{IfSome}
use Rattle.std.proofs.lemmas.Option.{cond_some}
use Rattle.rv_decode.specs.declared.instructions.Insn.{Insn}
use Rattle.rv_flow.specs.declared.placed.Placed.{Placed}
use Rattle.rv_flow.specs.Placed.{placed_at}
use Rattle.jump_table.specs.declared.step.Step.{Step}
use Rattle.jump_table.specs.Section.{goes_on, straight_run}
use Rattle.jump_table.specs.Inner.Operands.{HasOperands}
use Rattle.jump_table.specs.Inner.Straight.{straight_at, IsLength}
use Rattle.jump_table.specs.Inner.Steps.{IsStep, IsStepAt, LeadsNowhere, AreStepsBelow, AreSteps}
use Rattle.jump_table.proofs.Placed.{placed-operands}
use Rattle.jump_table.proofs.Runs.{no_more, nowhere-on, nowhere-past, nowhere-further}

module _ (bytes : List ℕ) (start j : ℕ) where
  -- The operands of a step are within their fields.
  pub step-operands : (k : ℕ) (step : Step) → IsStep bytes start j k step → IfSome step.insn HasOperands
  step-operands k step is =
      subst (λ (insn : Option Insn). IfSome insn HasOperands) (sym is.insn) (placed-operands bytes (j - 2 * k))

  lost : (k : ℕ) → LeadsNowhere bytes start j k → IsStepAt bytes start j k None
  lost k nowhere = record { leads = tt; nowhere = nowhere }

  module _ (k : ℕ) (some : 0 < k) (within : 2 * k ≤ j) where
    away : j - 2 * k ≢ j
    away is = omega arith

    -- What does not go straight on leads nowhere.
    pub step-stops : straight_at bytes start (j - 2 * k) ≡ None → IsStepAt bytes start j k None
    step-stops none = lost k (no_more bytes start j (j - 2 * k) away (stops (goes_on bytes start (j - 2 * k)) none))
      where
        stops : (b : Bool) → cond b (Some (placed_at bytes (j - 2 * k))) None ≡ None → b ≡ false
        stops true h = absurd (cc)
        stops false h = refl

    module _ (placed : Placed) (size : IsLength placed.length) (is : straight_at bytes start (j - 2 * k) ≡ Some placed) where
      goes : goes_on bytes start (j - 2 * k) ≡ true
      goes = (cond_some (goes_on bytes start (j - 2 * k)) (placed_at bytes (j - 2 * k)) placed is).0

      same : placed_at bytes (j - 2 * k) ≡ placed
      same = (cond_some (goes_on bytes start (j - 2 * k)) (placed_at bytes (j - 2 * k)) placed is).1

      same-length : (placed_at bytes (j - 2 * k)).length ≡ placed.length
      same-length = ap (λ (p : Placed). p.length) same

      ends : (next : ℕ) → placed.length / 2 ≤ k → next ≡ k - placed.length / 2 → IsLength placed.length → j - 2 * k + placed.length ≡ j - 2 * next
      ends next inside at (inl short) = omega arith
      ends next inside at (inr long) = omega arith

      nearer : (next : ℕ) → next ≡ k - placed.length / 2 → IsLength placed.length → next < k
      nearer next at (inl short) = omega arith
      nearer next at (inr long) = omega arith

      next-at : (next : ℕ) → placed.length / 2 ≤ k → next ≡ k - placed.length / 2 → j - 2 * k + (placed_at bytes (j - 2 * k)).length ≡ j - 2 * next
      next-at next inside at = ap (λ l. j - 2 * k + l) same-length ∙ ends next inside at size

      pub step-here : (next : ℕ) → placed.length / 2 ≤ k → next ≡ k - placed.length / 2 → IsStepAt bytes start j k (Some (record { insn = placed.insn; next = next }))
      step-here next inside at = record {
        leads = record {
          straight = goes;
          insn = sym (ap (λ (p : Placed). p.insn) same);
          next = next-at next inside at;
          nearer = nearer next at size;
        };
        nowhere = tt;
      }

      past : IsLength placed.length → k < placed.length / 2 → j < j - 2 * k + placed.length
      past (inl short) over = omega arith
      past (inr long) over = omega arith

      -- An instruction that reaches past the jump leads nowhere.
      pub step-past : (placed.length / 2 ≤ k → ⊥) → IsStepAt bytes start j k None
      step-past over =
          let beyond : j < j - 2 * k + (placed_at bytes (j - 2 * k)).length = subst (λ l. j < j - 2 * k + l) (sym same-length) (past size (omega (arith, over))) in
          lost k (nowhere-on bytes start j (j - 2 * k) away (λ n. nowhere-past bytes start j n (j - 2 * k + (placed_at bytes (j - 2 * k)).length) beyond))

      -- One behind which nothing leads to the jump leads nowhere.
      pub step-lost : (steps : List (Option Step)) → AreStepsBelow bytes start j k steps → start + 2 * k ≤ j
          → (next : ℕ) → placed.length / 2 ≤ k → next ≡ k - placed.length / 2 → 0 < next → get_or steps next None ≡ None → IsStepAt bytes start j k None
      step-lost steps are inside next half at more none =
          let there : IsStepAt bytes start j next None = subst (IsStepAt bytes start j next) none (are.near next more (nearer next at size) (omega (arith, nearer next at size))) in
          lost k (nowhere-on bytes start j (j - 2 * k) away (λ n. ap (λ a. straight_run bytes start j n a) (next-at next half at) ∙ there.nowhere n))

  -- ---- the steps that are known

  module _ (steps : List (Option Step)) where
    pub steps-step : AreSteps bytes start j steps → (k : ℕ) (step : Step) → 0 < k → k < 33 → start + 2 * k ≤ j → get_or steps k None ≡ Some step → IsStep bytes start j k step
    steps-step are k step some few inside is =
        let there : IsStepAt bytes start j k (Some step) = subst (IsStepAt bytes start j k) is (are.near k some few inside) in there.leads

    pub steps-none : AreSteps bytes start j steps → (k : ℕ) → 0 < k → k < 33 → start + 2 * k ≤ j → get_or steps k None ≡ None → LeadsNowhere bytes start j k
    steps-none are k some few inside is =
        let there : IsStepAt bytes start j k None = subst (IsStepAt bytes start j k) is (are.near k some few inside) in there.nowhere

    -- Where two parcels that follow each other lead nowhere, those are all the steps.
    module _ (n : ℕ) (are : AreStepsBelow bytes start j (n + 1) steps) (some : 0 < n) (few : n < 32) (inside : start + 2 * (n + 1) ≤ j)
        (first : get_or steps n None ≡ None) (second : IsStepAt bytes start j (n + 1) None) where
      nowhere-first : LeadsNowhere bytes start j n
      nowhere-first =
          let there : IsStepAt bytes start j n None = subst (IsStepAt bytes start j n) first (are.near n some (omega arith) (omega arith)) in there.nowhere

      by_place : (k : ℕ) → 0 < k → start + 2 * k ≤ j → (k < n + 1) ⊎ (n + 1 ≤ k) → IsStepAt bytes start j k (get_or steps k None)
      by_place k more within (inl near) = are.near k more near within
      by_place k more within (inr far) =
          subst (IsStepAt bytes start j k) (sym (are.far k far))
          (lost k (nowhere-further bytes start j n some nowhere-first second.nowhere k (omega arith) (omega arith)))

      side : (k : ℕ) → (k < n + 1) ⊎ (n + 1 ≤ k)
      side k = grind arith

      pub steps-all : AreSteps bytes start j steps
      steps-all = record {
        sized = are.sized;
        near = λ k more below within. by_place k more within (side k);
        far = λ k far. are.far k (omega arith);
      }

  -- ---- no steps yet

  nones : ℕ → List (Option Step)
  nones zero = []
  nones (suc n) = None ∷ nones n

  none-at : (n k : ℕ) → get_or (nones n) k None ≡ None
  unfolding nones
  none-at zero zero = refl
  none-at zero (suc k) = refl
  none-at (suc n) zero = refl
  none-at (suc n) (suc k) = none-at n k

  none-length : (n : ℕ) → length (nones n) ≡ n
  unfolding nones
  none-length zero = refl
  none-length (suc n) = ap (λ m. suc m) (none-length n)

  steps-of_none : AreStepsBelow bytes start j 1 (nones 33)
  steps-of_none = record {
    sized = none-length 33;
    near = λ k more below within. absurd (omega arith);
    far = λ k far. none-at 33 k;
  }

  pub steps-none_yet : AreStepsBelow bytes start j 1
      (None ∷ None ∷ None ∷ None ∷ None ∷ None ∷ None ∷ None ∷ None ∷ None ∷ None ∷ None ∷ None ∷ None ∷ None ∷ None ∷ None ∷ None ∷ None ∷ None ∷ None ∷ None ∷ None ∷ None ∷ None ∷ None ∷ None ∷ None ∷ None ∷ None ∷ None ∷ None ∷ None ∷ [])
  unfolding nones
  steps-none_yet = steps-of_none
