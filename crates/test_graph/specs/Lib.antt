pub mod StateRow
