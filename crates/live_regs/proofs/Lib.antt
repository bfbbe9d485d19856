pub mod Masks
mod Keyed
-- Edges is cited by proofs of live_crew, and Runs and Operands by those of free_laws.
pub mod Edges
mod Bits
pub mod Runs
mod Noted
mod Added
mod Gathered
mod Found
pub mod Operands
