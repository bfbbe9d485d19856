pub mod Section
pub mod Nearest
pub mod Bound
pub mod Pair
pub mod Values
pub mod Table
pub mod Inner
