-- Words of private functions and of proofs. No public clause names what stands here.
pub mod Passes
pub mod AddressIndex
pub mod Attributes
pub mod Architecture
pub mod Declared
pub mod Layout
pub mod Found
pub mod Image
