-- The graph of a program: leaders, blocks, edges, functions.
pub mod Leader
pub mod Block
pub mod Edge
pub mod Listing
pub mod Function
pub mod Graph
pub mod Unique
pub mod Places
pub mod Joined
