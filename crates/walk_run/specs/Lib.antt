pub mod Words
pub mod Status
pub mod Refusal
pub mod Lines
pub mod Answer
pub mod Run
pub mod Laws
pub mod Inner
