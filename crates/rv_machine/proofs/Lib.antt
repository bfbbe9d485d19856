mod Operands
mod ByteLoops
mod RegisterWrites
mod FirstParts
mod PartsApart
mod FileParts
mod Written
mod Layered
mod Worked
pub mod Apart
