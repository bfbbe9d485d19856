-- Words of private functions and of proofs. No public clause names what stands here.
pub mod Index
pub mod Tables
pub mod Symbols
pub mod Names
pub mod Merged
pub mod NoReturn
