-- Words of private functions, which no public contract cites.
pub mod Chunks
pub mod Drawn
