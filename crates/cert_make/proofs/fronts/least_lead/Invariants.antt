use Rattle.std.proofs.Common.{take}
use Rattle.cert_make.proofs.Sources.{Least}
use Rattle.cert_make.proofs.fronts.least_lead.Given as goal

abbrev pub invariant-loop-source : goal.invariant-loop-source
invariant-loop-source l = Least (take l.source-index l.sources) l.rank l.least
