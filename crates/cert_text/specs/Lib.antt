pub mod Line
pub mod Text
pub mod Unique
pub mod Reading
pub mod Sections
