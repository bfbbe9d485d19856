-- Words of this crate's own functions, which no public contract cites.
pub mod Untold
pub mod Waiting
pub mod Pairs
pub mod Walk
pub mod Remaining
pub mod Places
pub mod InPlace
pub mod EndKept
pub mod Lines
