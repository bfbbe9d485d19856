pub mod Chain
pub mod Found
pub mod Inner
pub mod Numbers
