pub mod Arithmetic
pub mod Operations
pub mod Atomics
pub mod Loads
