pub mod Going
pub mod Done
pub mod inner
