pub mod AllTables
