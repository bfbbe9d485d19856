-- Facts by computation on the worked rows. Crates above cite the codes of Rows.
pub mod Rows
pub mod StateRows
pub mod SelfCallRow
pub mod WaitRow
pub mod GraphRows
pub mod TableFacts
