pub mod Answer
pub mod Told
pub mod Line
pub mod Inputs
