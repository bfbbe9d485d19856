use Rattle.std.proofs.Common.{take}
use Rattle.cert_make.proofs.Sources.{LeastRank}
use Rattle.cert_make.proofs.fronts.least_rank.Given as goal

abbrev pub invariant-loop-source : goal.invariant-loop-source
invariant-loop-source l = LeastRank (take l.source-index l.sources) l.least
