pub mod Seeds
pub mod NoReturn
pub mod Inner
