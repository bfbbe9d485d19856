pub mod Shown
pub mod Seen
