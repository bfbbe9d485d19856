pub mod FileSeeds
pub mod FileGraph
pub mod Laws
