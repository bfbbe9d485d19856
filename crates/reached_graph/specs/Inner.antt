-- Words that contracts of private functions cite; no definition stands on them.
pub mod Marks
pub mod Walks
pub mod Leaders
pub mod Blocks
pub mod Parts
pub mod Ways
pub mod Cuts
pub mod Overlaps
