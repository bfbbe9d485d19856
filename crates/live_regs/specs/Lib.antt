-- Live registers of the blocks of a function.
pub mod Effects
pub mod Run
pub mod Leaves
pub mod Live
pub mod Masks
pub mod Unique
pub mod Noted
pub mod Inner
