-- The ends of the listed leaders.
use Rattle.std.proofs.Common.{◌≡◌, ℕ, ◌<◌, ◌↔◌, List, [], ◌≤◌, length, get_or, take, IsTrue, true, false, refl, sym, subst, ⊎_elim}
use Rattle.std.specs.Prelude.{All, Contains, Option, Some, None, IsSome}
use Rattle.std.specs.Option.{option_map}
use Rattle.std.specs.List.Sorted.{IsStrictlyIncreasing}
use Rattle.std.proofs.lemmas.List.Elements.{All-contains, Contains-get_or}
use Rattle.cfg_model.specs.Program.Instructions.{Instruction, InstructionMap}
use Rattle.cfg_model.specs.Program.Chain.{EndsChain, IsTerminator, IsTerminatorOf}
use Rattle.cfg_model.specs.Graph.Listing.{Gains}
use Rattle.cfg_model.proofs.Program.ChainEnds.{one_end}
use Rattle.cfg_model.proofs.Graphs.Gaining.{Gains-same}
use Rattle.cfg_model.proofs.Graphs.Lists.{Contains-none}
use Rattle.cert_text.specs.declared.lines.LeadLine.{LeadLine}
use Rattle.cert_text.specs.declared.lines.ReturnLine.{ReturnLine}
use Rattle.cert_text.specs.declared.certificate.Part.{Part}
use Rattle.cert_laws.specs.Valid.{IsListedEnd, ReturnsAreClosed}
use Rattle.cert_ends.specs.Ends.{AreEnds}
use Rattle.cert_ends.specs.Inner.{EndsOne, ReturnIsListed}
use Rattle.cert_ends.proofs.OneByOne.{denied, all_found}

-- an address is added that ends the chain of another, the one that does
pub end_added : (map : InstructionMap) (a end : ℕ) (old new : List ℕ) → IsTerminatorOf map a end → Gains old new (λ k. k ≡ end) → Gains old new (IsTerminatorOf map a)
end_added map a end old new is adds =
    Gains-same old new (λ k. k ≡ end) (IsTerminatorOf map a) (λ k same. subst (IsTerminatorOf map a) (sym same) is) (λ k other. one_end map a k end other is) adds

ends_listed : (map : InstructionMap) (leads : List LeadLine) (k : ℕ) → EndsOne map leads k → IsListedEnd map leads k
ends_listed map leads k h = record { lead = h.0.at; listed = record { line = h.0; listed = h.1; address = refl }; ends = h.2 }

listed_ends : (map : InstructionMap) (leads : List LeadLine) (k : ℕ) → IsListedEnd map leads k → EndsOne map leads k
listed_ends map leads k h = (h.listed.line, h.listed.listed, subst (λ a. IsTerminatorOf map a k) (sym h.listed.address) h.ends)

pub are_ends : (map : InstructionMap) (leads : List LeadLine) (ends sorted : List ℕ) → Gains [] ends (EndsOne map leads) → IsStrictlyIncreasing sorted → ((a : ℕ) → Contains sorted a ↔ Contains ends a) → AreEnds map leads sorted
are_ends map leads ends sorted gains rising same = record {
  rising = rising;
  exact = λ k. (
    λ h. ends_listed map leads k (⊎_elim (λ none. absurd (Contains-none k none)) (λ is. is) (gains.nothing_else k ((same k).0 h))),
    λ h. (same k).1 (gains.added k (listed_ends map leads k h)),
  );
}

-- What holds of each end.

stands_at : (o : Option Instruction) → EndsChain (option_map (λ i. i.flow) o) → IsSome o
stands_at None ends = absurd ends
stands_at (Some i) ends = refl

pub terminator_stands : (map : InstructionMap) (k : ℕ) → IsTerminator map k → IsSome (map k)
terminator_stands map k ends = stands_at (map k) ends

pub end_at : (map : InstructionMap) (leads : List LeadLine) (ends : List ℕ) → AreEnds map leads ends → (i : ℕ) (d : ℕ) → i < length ends → IsListedEnd map leads (get_or ends i d)
end_at map leads ends are i d lt = (are.exact (get_or ends i d)).0 (Contains-get_or ends i d lt)

pub end_stands : (map : InstructionMap) (leads : List LeadLine) (ends : List ℕ) → AreEnds map leads ends → (i : ℕ) (d : ℕ) → i < length ends → IsSome (map (get_or ends i d))
end_stands map leads ends are i d lt = terminator_stands map (get_or ends i d) (end_at map leads ends are i d lt).ends.ends

pub all_ends : (map : InstructionMap) (leads : List LeadLine) (ends : List ℕ) → AreEnds map leads ends → (P : ℕ → Type 0) → All P ends → (k : ℕ) → IsListedEnd map leads k → P k
all_ends map leads ends are P all k end = All-contains P ends k all ((are.exact k).1 end)

-- What is decided end by end.
module _ (map : InstructionMap) (part : Part) (ends : List ℕ) (are : AreEnds map part.leads ends)
    (returns : List ReturnLine) (same_returns : returns ≡ part.returns) where
  pub return_missed : (i : ℕ) → i < length ends → (ReturnIsListed map returns (get_or ends i 0) → ⊥) → IsTrue false ↔ ReturnsAreClosed map part
  return_missed i lt none =
      denied (ReturnsAreClosed map part)
      (λ closed.
      let k = get_or ends i 0 in
      let listed : ReturnIsListed map part.returns k = λ why h. closed k why (end_at map part.leads ends are i 0 lt) h in
      none (subst (λ (r : List ReturnLine). ReturnIsListed map r k) (sym same_returns) listed))

  pub none_missed : (n : ℕ) → length ends ≤ n → All (ReturnIsListed map returns) (take n ends) → IsTrue true ↔ ReturnsAreClosed map part
  none_missed n long so_far = (
    λ t. λ k why end h.
        let listed : ReturnIsListed map returns k = all_ends map part.leads ends are (ReturnIsListed map returns) (all_found (ReturnIsListed map returns) ends n long so_far) k end in
        subst (λ (r : List ReturnLine). ReturnIsListed map r k) same_returns listed why h,
    λ all. refl,
  )
