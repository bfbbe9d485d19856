pub mod Move
pub mod Covered
pub mod Runs
pub mod TableRun
pub mod Cover
pub mod Fixed
pub mod OpenCover
