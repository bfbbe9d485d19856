pub mod Fault
pub mod Opened
pub mod Told
pub mod Script
pub mod MemInput
pub mod MemSink
pub mod Inner
