-- Words of private functions and of proofs. No public clause names what stands here.
pub mod Operands
pub mod Parts
pub mod Extents
