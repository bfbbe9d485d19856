pub mod Counts
pub mod Lawful
pub mod KeptTargets
pub mod Views
pub mod ChainEnds
pub mod RegisterJumps
pub mod JumpsFound
pub mod EndLengths
pub mod Sought
mod Worked
