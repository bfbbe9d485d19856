-- Where a chain ends.
use Rattle.std.proofs.Common.{◌≡◌, ◌≢◌, ℕ, subst}
use mathlib.Core.Logic.{inl, inr}
use Rattle.cfg_model.specs.Program.Instructions.{InstructionMap}
use Rattle.cfg_model.specs.Program.Chain.{OnChain, GoesOnTo, IsTerminator, IsTerminatorOf, EndsChain}
use Rattle.cfg_model.proofs.Program.ChainFacts.{chain_cases}
use Rattle.cfg_model.proofs.Graphs.LeaderFacts.{chain_linear}

-- a straight instruction is no terminator
pub goes_not_ends : (map : InstructionMap) (a next : ℕ) → GoesOnTo map a next → IsTerminator map a → ⊥
goes_not_ends map a next goes ends = subst EndsChain goes ends

-- an address that is not the last of a chain goes on towards it
pub goes_towards : (map : InstructionMap) (a k : ℕ) → OnChain map a k → a ≢ k → (next : ℕ) × GoesOnTo map a next × OnChain map next k
goes_towards map a k chain apart = elim (chain_cases chain) [ inl same ↦ absurd (apart same) | inr more ↦ more ]

-- the terminator of a chain is that of each of its addresses
pub end_from : (map : InstructionMap) (a k e : ℕ) → OnChain map a k → IsTerminatorOf map a e → IsTerminatorOf map k e
end_from map a k e chain end =
    elim (chain_linear map chain end.reaches) [
      | inl ahead ↦ record { reaches = ahead; ends = end.ends }
      | inr back ↦ elim (chain_cases back) [
        | inl same ↦ record { reaches = subst (λ z. OnChain map z e) same OnChain.here; ends = end.ends }
        | inr more ↦ absurd (goes_not_ends map e more.0 more.1 end.ends)
      ]
    ]

-- a chain has one terminator
pub one_end : (map : InstructionMap) (a k e : ℕ) → IsTerminatorOf map a k → IsTerminatorOf map a e → k ≡ e
one_end map a k e one other =
    let more : IsTerminatorOf map k e = end_from map a k e one.reaches other in
    elim (chain_cases more.reaches) [
      | inl same ↦ same
      | inr goes ↦ absurd (goes_not_ends map k goes.0 goes.1 one.ends)
    ]
