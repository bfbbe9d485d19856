pub mod Listed
pub mod Tails
pub mod Inner
