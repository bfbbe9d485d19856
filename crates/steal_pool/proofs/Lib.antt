pub mod Sums
pub mod Lists
pub mod HandTries
pub mod Takings
pub mod Making
pub mod Gathering
pub mod Rules
pub mod Rounds
