-- What a program reaches from its seeds, by number.
use Rattle.std.specs.Prelude.{◌≡◌, ◌↔◌, ℕ, ◌<◌, Bool, true, false, List, length, get_or}
use Rattle.std.specs.Prelude.{IsSome}
use Rattle.cfg_model.specs.Program.Instructions.{InstructionMap}
use Rattle.cfg_model.specs.Program.Chain.{IsTerminator}
use Rattle.cfg_model.specs.Program.Reach.{Reached}
use Rattle.cfg_model.specs.Program.Status.{Returns}
use Rattle.cfg_model.specs.Graph.Leader.{IsLeader}
use Rattle.numbered.specs.Numbering.{IsMarked}
use Rattle.reached_terms.specs.Sent.{IsSent}

-- Marks by the numbers of addresses: of each terminator whether it is reached, and whether it
-- returns, and of each address whether a block is known to start there.
pub record Reach : Type 0 where
  pub reached : List Bool
  pub returns : List Bool
  pub starts : List Bool

-- There are marks for each number. Those of a terminator are set exactly if it is reached from the
-- seeds, and, of a reached one, if it returns; no other instruction is marked as a reached one.
-- Marked as starts of blocks are at least the addresses to which control is sent, and leaders alone:
-- whether two streams join at an address may be found later. What is reached is the address of an
-- instruction.
pub record AreReachedTerms (map : InstructionMap) (number : ℕ → ℕ) (seeds : List ℕ) (terms : Reach)
    : Type 0 where
  pub below : (a : ℕ) → IsSome (map a) → number a < length terms.reached
  pub sizes : length terms.returns ≡ length terms.reached
  pub starts_size : length terms.starts ≡ length terms.reached
  pub known : (a : ℕ) → Reached map seeds a → IsSome (map a)
  pub reached : (k : ℕ) → IsTerminator map k
      → (get_or terms.reached (number k) false ≡ true) ↔ Reached map seeds k
  pub ends : (a : ℕ) → IsMarked map number terms.reached a → IsTerminator map a
  pub returns : (k : ℕ) → IsTerminator map k → Reached map seeds k
      → (get_or terms.returns (number k) false ≡ true) ↔ Returns map k
  pub sent : (a : ℕ) → IsSent map seeds a → IsMarked map number terms.starts a
  pub leads : (a : ℕ) → IsMarked map number terms.starts a → IsLeader map seeds a
