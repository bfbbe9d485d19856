use Rattle.std.proofs.Common.{take}
use Rattle.std.specs.Prelude.{All, MatchOption}
use Rattle.cert_make.specs.Inner.Returns.{EndHasNone, IsNearest}
use Rattle.cert_make.proofs.returns.nearest.Given as goal

-- the nearest of those so far
abbrev pub invariant-loop-to : goal.invariant-loop-to
invariant-loop-to g l =
    MatchOption l.nearest (All (EndHasNone (g.C.Chains.map l.code) l.returns.lines.now) (take l.to-index l.successors))
    (λ w. IsNearest (g.C.Chains.map l.code) l.returns.lines.now (take l.to-index l.successors) w.rank w.to)
