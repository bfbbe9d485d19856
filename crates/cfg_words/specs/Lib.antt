pub mod Command
pub mod Value
pub mod Request
pub mod Given
