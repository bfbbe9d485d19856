pub mod Lines
pub mod Trace
pub mod Laws
pub mod Inner
