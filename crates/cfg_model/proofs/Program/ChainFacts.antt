-- Chains: by cases on their first instruction, and upwards.
use Rattle.std.proofs.Common.{◌≡◌, ℕ, ◌+◌, ◌≤◌, refl, sym, subst, arith, ◌∙◌}
use Rattle.std.specs.Prelude.{◌⊎◌, Option, Some, None}
use Rattle.std.specs.Option.{option_map}
use mathlib.Core.Logic.{inl, inr}
use Rattle.cfg_model.specs.declared.flow.Flow.{Flow}
use Rattle.cfg_model.specs.declared.flow.Flow.TheVariants.{Straight}
use Rattle.cfg_model.specs.Program.Instructions.{InstructionMap, Instruction, FlowFits, IsLawful, IsLawfulAt}
use Rattle.cfg_model.specs.Program.Chain.{GoesOnTo, OnChain}
use Rattle.cfg_model.specs.Program.Meeting.{IsMeeting}

-- an address of a chain is its first one, or lies on the chain of the next
pub chain_cases : {map : InstructionMap} {a k : ℕ} → OnChain map a k → (a ≡ k) ⊎ ((next : ℕ) × GoesOnTo map a next × OnChain map next k)
chain_cases OnChain.here = inl refl
chain_cases (OnChain.on {next = next} goes rest) = inr (next, goes, rest)

-- the instruction that has a flow
pub flow_of : (o : Option Instruction) (flow : Flow) → option_map (λ i. i.flow) o ≡ Some flow → (i : Instruction) × (o ≡ Some i) × (i.flow ≡ flow)
flow_of None flow e = cc
flow_of (Some i) flow e = (i, refl, cc)

pub straight_next : (a : ℕ) (i : Instruction) (next : ℕ) → FlowFits a i (Straight next) → next ≡ a + i.bytes
straight_next a i next fits = fits.0

-- a straight instruction goes on 2 or 4 bytes further on
pub goes_up : {map : InstructionMap} → IsLawful map → (a next : ℕ) → GoesOnTo map a next → a + 2 ≤ next
goes_up {map} lawful a next goes =
    let found = flow_of (map a) (Straight next) goes in
    let law : IsLawfulAt map a found.0 = lawful a found.0 found.1 in
    let fits : FlowFits a found.0 (Straight next) = subst (λ flow. FlowFits a found.0 flow) found.2 law.fits in
    up a next found.0.bytes law.size (straight_next a found.0 next fits)
  where
    up : (a next bytes : ℕ) → (bytes ≡ 2) ⊎ (bytes ≡ 4) → next ≡ a + bytes → a + 2 ≤ next
    up a next bytes (inl two) e = omega arith
    up a next bytes (inr four) e = omega arith

-- chains only go up
pub chain_up : {map : InstructionMap} → IsLawful map → {a k : ℕ} → OnChain map a k → a ≤ k
chain_up lawful OnChain.here = omega arith
chain_up lawful (OnChain.on {a = a} {next = next} goes rest) = omega (arith, goes_up lawful a next goes, chain_up lawful rest)

-- one chain goes on with another
pub chain_on : {map : InstructionMap} {a b c : ℕ} → OnChain map a b → OnChain map b c → OnChain map a c
chain_on OnChain.here rest = rest
chain_on (OnChain.on goes more) rest = OnChain.on goes (chain_on more rest)

-- two chains meet at one address at most
pub meeting_unique : (map : InstructionMap) (p q m n : ℕ) → IsMeeting map p q m → IsMeeting map p q n → m ≡ n
meeting_unique map p q m n one other = omega (arith, one.least n other.on_first other.on_second, other.least m one.on_first one.on_second)

-- an instruction goes on to one address at most
pub one_next : (map : InstructionMap) (a m n : ℕ) → GoesOnTo map a m → GoesOnTo map a n → m ≡ n
one_next map a m n p q = straights m n (sym p ∙ q)
  where
    straights : (m n : ℕ) → Some (Straight m) ≡ Some (Straight n) → m ≡ n
    straights m n e = cc
