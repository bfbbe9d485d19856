pub mod Endings
pub mod Listed
pub mod Unique
