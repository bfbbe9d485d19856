pub mod Listed
pub mod SeedsOfFile
pub mod FileLaws
