-- What a walk along a chain leaves behind, and what still lies ahead of it.
use Rattle.std.proofs.Common.{◌≡◌, ◌≢◌, ℕ, ◌<◌, ◌≤◌, subst, sym, arith}
use mathlib.Core.Logic.{inl, inr}
use Rattle.cfg_model.specs.Program.Instructions.{InstructionMap, IsLawful}
use Rattle.cfg_model.specs.Program.Chain.{GoesOnTo, IsTerminator, OnChain}
use Rattle.cfg_model.specs.Program.Meeting.{IsMeeting}
use Rattle.cfg_model.proofs.Program.ChainFacts.{chain_cases, chain_on, chain_up, one_next}
use Rattle.cfg_model.proofs.Program.ChainSteps.{chain_step}
use Rattle.cfg_model.proofs.Program.ChainEnds.{goes_not_ends}

-- a chain that leads from a straight instruction to another address leads there from the next one
pub way_on : (map : InstructionMap) (a k next : ℕ) → OnChain map a k → a ≢ k → GoesOnTo map a next → OnChain map next k
way_on map a k next chain apart goes =
    elim (chain_cases chain) [
      | inl same ↦ absurd (apart same)
      | inr more ↦ subst (λ z. OnChain map z k) (one_next map a more.0 next more.1 goes) more.2
    ]

-- nothing comes behind a terminator
pub ends_at : (map : InstructionMap) (a k : ℕ) → IsTerminator map a → OnChain map a k → a ≡ k
ends_at map a k ends chain =
    elim (chain_cases chain) [
      | inl same ↦ same
      | inr more ↦ absurd (goes_not_ends map a more.0 more.1 ends)
    ]

-- what lies at or above k lies ahead of a step that ends at or below k
pub still_ahead : (map : InstructionMap) (a next k x : ℕ) → a < next → next ≤ k → k ≤ x → GoesOnTo map a next → OnChain map a x → OnChain map next x
still_ahead map a next k x up below above goes chain = way_on map a x next chain (λ e. omega arith) goes

-- a step over k from the chain that leads to k starts there
pub stepped_over : (map : InstructionMap) → IsLawful map → (a next k : ℕ) → k < next → GoesOnTo map a next → OnChain map a k → a ≡ k
stepped_over map lawful a next k over goes chain =
    elim (chain_cases chain) [
      | inl same ↦ same
      | inr more ↦ absurd (above more.0 (one_next map a more.0 next more.1 goes) (chain_up lawful more.2))
    ]
  where
    above : (other : ℕ) → other ≡ next → other ≤ k → ⊥
    above other same low = omega arith

-- Two walks that go up side by side, with a and b as the places that were reached: what is on both
-- chains lies ahead of a, what is not below a lies ahead of b, and b is at a if a is on the chain of q.
pub record GoesUp (map : InstructionMap) (p q a b : ℕ) : Type 0 where
  pub first : OnChain map p a
  pub second : OnChain map q b
  pub common : (x : ℕ) → OnChain map p x → OnChain map q x → OnChain map a x
  pub ahead : (x : ℕ) → a ≤ x → OnChain map q x → OnChain map b x
  pub found : OnChain map q a → b ≡ a

-- where both are at one address, the chains meet there
pub meets_at : (map : InstructionMap) → IsLawful map → (p q a b : ℕ) → GoesUp map p q a b → a ≡ b → IsMeeting map p q a
meets_at map lawful p q a b up same = record {
  on_first = up.first;
  on_second = subst (OnChain map q) (sym same) up.second;
  least = λ x on_p on_q. chain_up lawful (up.common x on_p on_q);
}

-- the second walk climbed from b towards k, and is at c
pub record Climbed (map : InstructionMap) (b k c : ℕ) : Type 0 where
  pub on_chain : OnChain map b c
  pub ahead : (x : ℕ) → k ≤ x → OnChain map b x → OnChain map c x
  pub found : OnChain map b k → c ≡ k

pub starts_up : (map : InstructionMap) (p q b : ℕ) → Climbed map q p b → GoesUp map p q p b
starts_up map p q b climbed = record { first = OnChain.here; second = climbed.on_chain; common = λ x on_p on_q. on_p; ahead = climbed.ahead; found = climbed.found }

-- the first walk goes on from a to next, and the second one climbs after it
pub steps_up : (map : InstructionMap) (p q a b next c : ℕ) → GoesUp map p q a b → a ≢ b → GoesOnTo map a next → a < next → Climbed map b next c → GoesUp map p q next c
steps_up map p q a b next c up apart goes above climbed = record {
  first = chain_step map p a next up.first goes;
  second = chain_on up.second climbed.on_chain;
  common = λ x on_p on_q. way_on map a x next (up.common x on_p on_q) (λ e. apart (sym (up.found (subst (OnChain map q) (sym e) on_q)))) goes;
  ahead = λ x high on_q. climbed.ahead x high (up.ahead x (omega arith) on_q);
  found = λ on_q. climbed.found (up.ahead next (omega arith) on_q);
}
