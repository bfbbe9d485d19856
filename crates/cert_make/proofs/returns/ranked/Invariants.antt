use Rattle.std.proofs.Common.{◌≡◌, ◌<◌, ◌^◌, map, take}
use Rattle.std.specs.Prelude.{All}
use Rattle.cert_text.specs.declared.lines.ReturnLine.{ReturnLine}
use Rattle.cert_make.proofs.Rows.{at_of}
use Rattle.cert_make.proofs.returns.ranked.Given as goal

abbrev pub invariant-loop-i : goal.invariant-loop-i
invariant-loop-i l = (map at_of l.next.items ≡ map at_of (take l.i l.lines)) × All (λ (x : ReturnLine). x.rank < 2 ^ 32) l.next.items
