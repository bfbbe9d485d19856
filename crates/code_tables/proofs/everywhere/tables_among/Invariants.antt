use Rattle.std.proofs.Common.{take}
use Rattle.code_tables.specs.Parts.{AreTablesAmong}
use Rattle.code_tables.proofs.everywhere.tables_among.Given as goal

-- the tables among the places so far
abbrev pub invariant-loop-jump : goal.invariant-loop-jump
invariant-loop-jump l = AreTablesAmong l.code.bytes (take l.jump-index l.places) l.jumps.items
