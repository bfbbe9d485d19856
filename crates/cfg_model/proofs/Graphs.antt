-- Lemmas on lists, leaders, blocks and edges. Proofs of the crates above cite them.
pub mod Lists
pub mod Gaining
pub mod Runs
pub mod LeaderFacts
pub mod WaysOn
pub mod OneBlock
pub mod OneGraph
pub mod EdgeOrder
pub mod Cover
pub mod Joined
pub mod Places
