use Rattle.std.proofs.Common.{take}
use Rattle.std.specs.Prelude.{All}
use Rattle.cert_ends.specs.Inner.{ReturnIsListed}
use Rattle.cert_ends.proofs.missing.returns_are_closed.Given as goal

abbrev pub invariant-loop-k : goal.invariant-loop-k
invariant-loop-k g l = All (ReturnIsListed (g.C.Chains.map l.code) l.returns.lines.now) (take l.k-index l.ends)
