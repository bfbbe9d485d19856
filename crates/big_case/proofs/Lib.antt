pub mod Slots
pub mod Tables
pub mod Fitting
mod Worked
