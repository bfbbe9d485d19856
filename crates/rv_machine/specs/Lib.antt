pub mod Registers
pub mod State
pub mod Memory
pub mod Access
pub mod Step
pub mod FileMemory
pub mod Regions
pub mod Inner
