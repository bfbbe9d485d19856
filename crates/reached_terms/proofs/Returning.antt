-- Along a chain, all return or none does.
use Rattle.std.proofs.Common.{◌≡◌, ◌↔◌, ℕ, ◌<◌, Bool, true, false, List, [], length, get_or, Some, sym, ◌∙◌, subst, inl, inr}
use Rattle.std.proofs.lemmas.List.{get_or_default}
use Rattle.cfg_model.specs.declared.flow.Flow.TheVariants.{Straight, Call}
use Rattle.cfg_model.specs.Program.Instructions.{InstructionMap}
use Rattle.cfg_model.specs.Program.Chain.{OnChain, GoesOnTo, IsTerminatorOf}
use Rattle.cfg_model.specs.Program.Successors.{LeavesFunction}
use Rattle.cfg_model.specs.Program.Reach.{Reached}
use Rattle.cfg_model.specs.Program.Status.{Returns}
use Rattle.cfg_model.proofs.Program.Along.{returns_along}
use Rattle.cfg_model.proofs.Program.Known.{successor_to_flow}
use Rattle.cfg_model.proofs.Program.Listed.{none_in, in_cases}
use Rattle.reached_terms.specs.Reached.{Reach, AreReachedTerms}
use Rattle.reached_terms.proofs.Arrivals.{reached_on}
use Rattle.reached_terms.proofs.Complete.{ends_stand}

returns_next : (map : InstructionMap) (a next : ℕ) → GoesOnTo map a next → Returns map a → Returns map next
returns_next map a next goes (Returns.by_itself leaves) = absurd (subst LeavesFunction goes leaves)
returns_next map a next goes (Returns.onward {b = b} is returns) = elim (in_cases next [] b (successor_to_flow map a (Straight next) goes b is)) [
  | inl same ↦ subst (Returns map) (sym same) returns
  | inr none ↦ absurd (none_in b none)
]
returns_next map a next goes (Returns.past_call {target = target} {fall = fall} call first second) =
    let both : Some (Straight next) ≡ Some (Call target (Some fall)) = sym goes ∙ call in absurd (cc)

returns_on : {map : InstructionMap} {a k : ℕ} → OnChain map a k → Returns map a → Returns map k
returns_on OnChain.here returns = returns
returns_on {map} (OnChain.on {a = a} {next = next} goes rest) returns = returns_on rest (returns_next map a next goes returns)

-- what the mark of its terminator tells of a reached address
pub mark-tells : (map : InstructionMap) (number : ℕ → ℕ) (seeds : List ℕ) (terms : Reach) → AreReachedTerms map number seeds terms → (a k n : ℕ) → Reached map seeds a → IsTerminatorOf map a k → n ≡ number k
    → (on : Bool) → on ≡ get_or terms.returns n on → (on ≡ true) ↔ Returns map a
mark-tells map number seeds terms are a k n reached ends is on read =
    let within : n < length terms.returns = rw (is, are.sizes) (are.below k (ends_stand (map k) ends.ends)) in
    let told : (get_or terms.returns n false ≡ true) ↔ Returns map k = rw is (are.returns k ends.ends (reached_on ends.reaches reached)) in
    let same : on ≡ get_or terms.returns n false = read ∙ get_or_default terms.returns n on false within in (
      λ is_on. returns_along ends.reaches (told.0 (sym same ∙ is_on)),
      λ returns. same ∙ told.1 (returns_on ends.reaches returns),
    )
