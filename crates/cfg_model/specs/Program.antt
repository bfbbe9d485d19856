-- A program: its instructions, where control goes from each, and what is reached.
pub mod Instructions
pub mod Chain
pub mod Meeting
pub mod Successors
pub mod Status
pub mod Reach
pub mod Cuts
