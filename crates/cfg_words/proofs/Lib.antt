pub mod Number
pub mod Taken
pub mod Worked
