pub mod Survey
pub mod Reach
pub mod File
