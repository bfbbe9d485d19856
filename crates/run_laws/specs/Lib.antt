pub mod Frames
pub mod Orderly
pub mod Runs
pub mod Whole
pub mod Outline
