pub mod Returns
pub mod Places
pub mod Ends
pub mod Offers
pub mod Links
pub mod Runs
pub mod Fronts
pub mod Settled
