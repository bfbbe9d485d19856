pub mod Narrowing
pub mod ByOpcode
pub mod Offsets
pub mod Apart
mod Worked
pub mod ByFields
pub mod Lengths
