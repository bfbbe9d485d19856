pub mod Rows
pub mod Registers
pub mod Table
pub mod IntegerFloats
pub mod Forms
pub mod Laws
