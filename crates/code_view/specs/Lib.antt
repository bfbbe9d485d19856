pub mod Cuts
pub mod Flow
pub mod RegisterJump
pub mod Tables
pub mod Program
pub mod FileCode
pub mod Inner
pub mod JumpWord
