-- Whether a terminator that is not listed has a reason to return.
use Rattle.std.proofs.Common.{◌≡◌, ℕ, ◌↔◌, List, get_or, Bool, false, IsTrue, subst}
use Rattle.std.specs.Prelude.{All, Contains}
use Rattle.std.proofs.lemmas.List.Elements.{All-contains, Contains-get_or}
use Rattle.cfg_model.specs.Program.Instructions.{InstructionMap}
use Rattle.cfg_model.specs.Program.Successors.{ReturnsByItself, successors_of}
use Rattle.cert_text.specs.declared.lines.ReturnLine.{ReturnLine}
use Rattle.cert_text.specs.declared.lines.ReturnWhy.{ReturnWhy}
use Rattle.cert_text.specs.declared.lines.ReturnWhy.TheVariants.{Itself, To, CallBoth}
use Rattle.cert_laws.specs.Lines.{IsReturn}
use Rattle.cert_laws.specs.Ways.{EndsIn, ReturnsBy, ReturnsByBoth}
use Rattle.cert_ends.specs.Inner.{ReturnIsListed}
use Rattle.cert_ends.proofs.OneByOne.{denied}

module _ (map : InstructionMap) (returns : List ReturnLine) (k : ℕ) (unlisted : IsReturn returns k → ⊥) where
  abbrev Elsewhere : ℕ → Type 0
  Elsewhere a = ¬ EndsIn map (IsReturn returns) a

  pub is_missed : (why : ReturnWhy) → ReturnsBy map (IsReturn returns) k why → IsTrue false ↔ ReturnIsListed map returns k
  is_missed why by = denied (ReturnIsListed map returns k) (λ listed. unlisted (listed why by))

  no_reason : (ReturnsByItself map k → ⊥) → (ReturnsByBoth map (IsReturn returns) k → ⊥) → All Elsewhere (successors_of map k) → (why : ReturnWhy) → ReturnsBy map (IsReturn returns) k why → IsReturn returns k
  no_reason itself both all Itself h = absurd (itself h)
  no_reason itself both all (To target) h = absurd (All-contains Elsewhere (successors_of map k) target all h.0 h.1)
  no_reason itself both all CallBoth h = absurd (both h)

  pub by_successors :
      (successors : List ℕ) → successors ≡ successors_of map k → (ReturnsByItself map k → ⊥) →
      (ReturnsByBoth map (IsReturn returns) k → ⊥) → (r : Bool) →
      IsTrue r ↔ All (λ a. ¬ EndsIn map (IsReturn returns) a) successors → IsTrue r ↔ ReturnIsListed map returns k
  by_successors successors are itself both r says = (
    λ t. λ why h. no_reason itself both (subst (All Elsewhere) are (says.0 t)) why h,
    λ listed. says.1 (λ i d lt ends. unlisted (listed (To (get_or successors i d)) (subst (λ (xs : List ℕ). Contains xs (get_or successors i d)) are (Contains-get_or successors i d lt), ends))),
  )
