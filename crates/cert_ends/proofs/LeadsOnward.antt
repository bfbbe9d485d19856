-- Where the chain of an address ends.
use Rattle.std.proofs.Common.{ℕ, subst}
use Rattle.cfg_model.specs.Program.Instructions.{InstructionMap}
use Rattle.cfg_model.specs.Program.Chain.{IsTerminatorOf}
use Rattle.cfg_model.proofs.Program.ChainEnds.{one_end}
use Rattle.cert_laws.specs.Ways.{EndsIn}

-- the terminator of a chain is one of these
pub ends_in : (map : InstructionMap) (Among : ℕ → Type 0) (a k : ℕ) → IsTerminatorOf map a k → Among k → EndsIn map Among a
ends_in map Among a k ends among = record { end = k; ends = ends; among = among }

pub ends_back : (map : InstructionMap) (Among : ℕ → Type 0) (a k : ℕ) → IsTerminatorOf map a k → EndsIn map Among a → Among k
ends_back map Among a k ends h = subst Among (one_end map a h.end k h.ends ends) h.among
