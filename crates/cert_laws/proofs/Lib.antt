pub mod Member
pub mod ShowsGraph
pub mod OutlineShown
pub mod FileShown
pub mod Worked
