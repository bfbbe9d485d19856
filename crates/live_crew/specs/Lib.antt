-- Words of this crate.
pub mod Inner
