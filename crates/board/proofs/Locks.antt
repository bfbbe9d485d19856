pub mod Parts
pub mod Sums
pub mod Same
pub mod Views
mod Worked
pub mod Marks
pub mod Touches
pub mod Steps
