pub mod Apart
pub mod ByForm
pub mod ByStack
pub mod ByOpcode
pub mod FormsApart
pub mod IntegerBy
pub mod Tables
pub mod TablesApart
