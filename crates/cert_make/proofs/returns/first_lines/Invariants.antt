use Rattle.std.proofs.Common.{◌≡◌, map, take}
use Rattle.cert_make.proofs.Rows.{at_of}
use Rattle.cert_make.proofs.returns.first_lines.Given as goal

abbrev pub invariant-loop-k : goal.invariant-loop-k
invariant-loop-k l = map at_of l.lines.items ≡ take l.k-index l.returns
