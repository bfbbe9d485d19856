pub mod Ranges
pub mod Gaps
pub mod Lists
pub mod Inner
