-- Words of this crate's own functions, which no public contract cites.
pub mod Measure
pub mod Working
pub mod Walking
