pub mod Shapes
pub mod Halfwords
