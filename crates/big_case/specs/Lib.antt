pub mod Pair
pub mod Places
pub mod Slots
pub mod Tables
pub mod BigCase
