-- Words that contracts of private functions cite; no definition stands on them.
pub mod Marks
pub mod Steps
pub mod Closing
