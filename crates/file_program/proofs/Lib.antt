pub mod UnderCuts
pub mod Unique
