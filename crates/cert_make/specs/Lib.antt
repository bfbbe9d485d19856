pub mod Reason
pub mod Rank
pub mod First
pub mod Canonical
pub mod Ranked
pub mod Validity
pub mod Inner
