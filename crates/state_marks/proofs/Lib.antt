pub mod Marking
pub mod Numbers
pub mod Joined
pub mod Told
