-- Words of this crate's own functions, which no public contract cites.
pub mod Entries
pub mod Lent
pub mod Grouped
