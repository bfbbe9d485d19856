-- Whether a line of a list has an address.
use Rattle.std.proofs.Common.{◌≡◌, ℕ, List, [], ◌∷◌}
use Rattle.std.specs.Prelude.{◌⊎◌, Contains}
use mathlib.Core.Logic.{inl, inr}
use Rattle.cfg_model.proofs.Program.Listed.{none_in, head_in, tail_in, in_cases}
use Rattle.cfg_model.proofs.Program.MapFacts.{same_or_other}
use Rattle.std.proofs.Common.{ap, ◌∙◌}

-- an item of this number
pub record Has {X : Type 0} (number : X → ℕ) (xs : List X) (a : ℕ) : Type 0 where
  pub item : X
  pub listed : Contains xs item
  pub is : number item ≡ a

pub has_or_not : {X : Type 0} (number : X → ℕ) (xs : List X) (a : ℕ) → Has number xs a ⊎ (Has number xs a → ⊥)
has_or_not number [] a = inr (λ h. none_in h.item h.listed)
has_or_not number (x ∷ xs) a =
    elim (same_or_other (number x) a) [
      | inl e ↦ inl (record { item = x; listed = head_in x xs; is = e })
      | inr ne ↦ elim (has_or_not number xs a) [
        | inl h ↦ inl (record { item = h.item; listed = tail_in x h.item xs h.listed; is = h.is })
        | inr none ↦ inr (λ h. elim (in_cases x xs h.item h.listed) [
          | inl e ↦ ne (ap number e ∙ h.is)
          | inr more ↦ none (record { item = h.item; listed = more; is = h.is })
        ])
      ]
    ]
