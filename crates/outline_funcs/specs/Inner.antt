-- Words of private functions, which no public contract cites.
pub mod Entries
pub mod Blocks
pub mod Exits
pub mod Found
pub mod Bodies
pub mod Marking
pub mod Plans
