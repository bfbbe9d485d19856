pub mod Extents
pub mod Inner
