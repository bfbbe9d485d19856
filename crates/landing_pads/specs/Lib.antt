pub mod Place
pub mod Number
pub mod Pointer
pub mod Common
pub mod Frame
pub mod Table
pub mod Pad
pub mod Inner
