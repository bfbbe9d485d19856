use Rattle.std.proofs.Common.{◌≡◌}
use Rattle.cfg_vectors.specs.Rows.{each_halfword}
use Rattle.cfg_vectors.proofs.symbols.row_31_symbols.Given as goal

abbrev pub invariant-loop-i : goal.invariant-loop-i
invariant-loop-i l = l.symbols.items ≡ each_halfword 0x10000 l.i
