use Rattle.std.proofs.Common.{take}
use Rattle.std.specs.Prelude.{All}
use Rattle.cert_laws.specs.Valid.{IsListedEnd}
use Rattle.cert_ends.proofs.missing.returns_end.Given as goal

abbrev pub invariant-loop-line : goal.invariant-loop-line
invariant-loop-line g l =
    All (λ line. IsListedEnd (g.C.Chains.map l._code) l.part.leads line.at) (take l.line-index l.line-items)
