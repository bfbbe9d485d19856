mod ByOpcode
mod OneRow
mod TablesApart
