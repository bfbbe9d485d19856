pub mod Agree
pub mod Steps
pub mod Within
pub mod Free
pub mod Keeping
