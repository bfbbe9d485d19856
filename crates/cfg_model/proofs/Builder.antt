-- Lemmas on the maps of a builder's state. Proofs of the crates above cite them.
pub mod MapFacts
pub mod WaiterOrder
pub mod StateReads
pub mod StateGrowth
pub mod EndGrowth
pub mod EntryChanges
