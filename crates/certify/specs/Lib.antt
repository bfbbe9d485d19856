pub mod FileCanonical
pub mod Laws
