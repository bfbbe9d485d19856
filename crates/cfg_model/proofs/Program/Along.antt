-- What holds at the end of a chain, along it.
use Rattle.std.proofs.Common.{ℕ, []}
use Rattle.cfg_model.specs.Program.Instructions.{InstructionMap}
use Rattle.cfg_model.specs.Program.Chain.{OnChain, GoesOnTo}
use Rattle.cfg_model.specs.Program.Successors.{IsSuccessor}
use Rattle.cfg_model.specs.Program.Status.{Returns}
use Rattle.cfg_model.proofs.Program.Listed.{head_in}

-- a straight instruction's one successor is the next
pub next_is_successor : (map : InstructionMap) (a next : ℕ) → GoesOnTo map a next → IsSuccessor map a next
next_is_successor map a next goes = rw goes (head_in next [])

-- an address whose chain goes on to one that returns does too
pub returns_along : {map : InstructionMap} {a k : ℕ} → OnChain map a k → Returns map k → Returns map a
returns_along OnChain.here r = r
returns_along {map} (OnChain.on {a = a} {next = next} goes rest) r = Returns.onward (next_is_successor map a next goes) (returns_along rest r)
