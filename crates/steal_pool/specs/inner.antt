pub mod Ends
pub mod Building
