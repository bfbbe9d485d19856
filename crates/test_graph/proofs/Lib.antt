pub mod RowChains
