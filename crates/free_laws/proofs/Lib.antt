mod Sources
mod Reading
mod Writing
mod OneStep
mod OpenStep
mod LiveFrom
mod Ends
pub mod Twins
pub mod Forever
pub mod Keeping
mod ByMask
