pub mod Digits
pub mod Lefts
pub mod Filling
pub mod Giving
mod Worked
