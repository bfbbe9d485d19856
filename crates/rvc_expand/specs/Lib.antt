pub mod Bits
pub mod Formats
pub mod Instructions
pub mod Halfword
pub mod Table
pub mod Laws
