pub mod Expanded
pub mod Written
mod Uppers
pub mod Told
pub mod Extended
pub mod EndsTold
pub mod Stands
pub mod Kept
mod Lengths
