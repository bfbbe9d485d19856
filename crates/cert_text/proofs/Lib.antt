pub mod Fields
pub mod Ranks
pub mod LineForms
pub mod Sections
pub mod Steps
pub mod Parts
pub mod Exits
pub mod Worked
