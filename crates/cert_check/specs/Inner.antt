pub mod Blocks
pub mod Jumps
pub mod Ways
pub mod Reasons
pub mod Right
pub mod Outlined
