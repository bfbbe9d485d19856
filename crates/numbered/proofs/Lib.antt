pub mod Listing
pub mod CodeNumbers
