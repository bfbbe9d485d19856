pub mod Quadrants
pub mod OneHolds
mod Worked
pub mod FieldsRead
