pub mod Least
pub mod Keys
pub mod Lent
pub mod Found
pub mod Read
pub mod Joined
pub mod Pairs
pub mod inner
