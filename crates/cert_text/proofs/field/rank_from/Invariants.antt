use Rattle.std.proofs.Common.{◌≡◌, drop}
use Rattle.cert_text.specs.Reading.{rank_from}
use Rattle.cert_text.proofs.field.rank_from.Given as goal

abbrev pub invariant-loop-i : goal.invariant-loop-i
invariant-loop-i l = rank_from l.rank (drop l.i l.bytes) ≡ rank_from l.first l.bytes
