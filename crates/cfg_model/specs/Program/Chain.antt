-- Chains: the straight runs of instructions that basic blocks are cut from.
use Rattle.std.specs.Prelude.{◌≡◌, ℕ, Option, Some, None}
use Rattle.cfg_model.specs.declared.flow.Flow.{Flow}
use Rattle.cfg_model.specs.declared.flow.Flow.TheVariants.{Straight}
use Rattle.cfg_model.specs.Program.Instructions.{InstructionMap, flow_at}

-- The instruction at a is straight, and next is the address after it.
abbrev pub GoesOnTo : InstructionMap → ℕ → ℕ → Type 0
GoesOnTo map a next = flow_at map a ≡ Some (Straight next)

-- A flow that ends a chain: every one that is not straight.
abbrev pub EndsChain : Option Flow → Type 0
EndsChain None = ⊥
EndsChain (Some (Straight next)) = ⊥
EndsChain _ = Unit {0}

-- A terminator: an instruction whose flow is not straight.
abbrev pub IsTerminator : InstructionMap → ℕ → Type 0
IsTerminator map k = EndsChain (flow_at map k)

-- k is on the chain of a: a itself, the address after it if a is straight, and so on.
pub data OnChain (map : InstructionMap) : ℕ → ℕ → Type 0 where
  here : {a : ℕ} → OnChain map a a
  on : {a next k : ℕ} → GoesOnTo map a next → OnChain map next k → OnChain map a k

-- k is the terminator of the chain of a, its last address.
pub record IsTerminatorOf (map : InstructionMap) (a k : ℕ) : Type 0 where
  pub reaches : OnChain map a k
  pub ends : IsTerminator map k
