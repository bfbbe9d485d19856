pub mod Goes
pub mod Invariant
pub mod OutlineOf
pub mod Moves
pub mod Whole
