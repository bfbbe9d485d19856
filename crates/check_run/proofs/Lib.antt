pub mod Endings
pub mod Unique
