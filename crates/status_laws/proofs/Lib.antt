-- Laws of return status, shards, knowledge and closed states. Proofs of the crates above cite the laws
-- themselves.
pub mod StatusLaws
pub mod KeptLaws
pub mod ShardLaws
pub mod PartLaws
pub mod SoundLaws
pub mod BroughtLaws
pub mod ClosedLaws
pub mod Worked
