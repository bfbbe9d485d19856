-- The turns of shards, apart from what lies in the shards.
pub mod Share
pub mod TurnView
pub mod Words
pub mod Rule
pub mod Plays
