mod FirstChunk
mod Placed
pub mod Covered
pub mod GapByGap
