pub mod Found
pub mod Least
pub mod Kept
pub mod Counted
