-- What no public contract cites: a seat of the table, and one turn of it.
pub mod Inside
pub mod Laid
pub mod Closing
