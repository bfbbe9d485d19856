mod Worked
pub mod Lebs
pub mod Walks
pub mod ByBegin
pub mod OnceRead
pub mod AllSections
