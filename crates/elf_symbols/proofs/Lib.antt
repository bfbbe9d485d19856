mod Worked
pub mod Parts
pub mod Strings
pub mod Members
pub mod Rising
pub mod Tables
pub mod Pass
pub mod LeastName
pub mod FindSeed
pub mod MergeStep
pub mod Codes
pub mod Names
pub mod Answer
pub mod NoReturnLemmas
