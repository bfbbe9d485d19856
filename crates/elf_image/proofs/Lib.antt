mod Worked
mod WorkedNames
mod WorkedTables
pub mod Ranges
pub mod Finds
pub mod Pairs
pub mod LaidOut
pub mod Filled
pub mod FirstFault
pub mod Accepted
pub mod OneSection
pub mod Numbers
pub mod Records
pub mod Lower
pub mod Letters
pub mod Join
pub mod ByJump
pub mod InFile
pub mod SectionNames
pub mod DataFrom
