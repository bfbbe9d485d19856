pub mod World
pub mod Asked
pub mod Step
pub mod Runs
pub mod Laws
