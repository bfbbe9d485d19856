pub mod Table
pub mod Forms
pub mod Laws
