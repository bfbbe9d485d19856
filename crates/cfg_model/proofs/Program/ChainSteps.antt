-- Chains, address by address.
use Rattle.std.proofs.Common.{ℕ}
use Rattle.cfg_model.specs.Program.Instructions.{InstructionMap}
use Rattle.cfg_model.specs.Program.Chain.{GoesOnTo, OnChain}

-- a chain goes on by one address
chain_more : {map : InstructionMap} {a k : ℕ} (next : ℕ) → OnChain map a k → GoesOnTo map k next → OnChain map next next → OnChain map a next
chain_more next OnChain.here goes last = OnChain.on goes last
chain_more next (OnChain.on first rest) goes last = OnChain.on first (chain_more next rest goes last)

pub chain_step : (map : InstructionMap) (a k next : ℕ) → OnChain map a k → GoesOnTo map k next → OnChain map a next
chain_step map a k next chain goes = chain_more next chain goes OnChain.here
