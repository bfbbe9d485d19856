-- Words of this crate's own functions, which no public contract cites.
pub mod Nowhere
pub mod Worker
pub mod Known
pub mod Team
