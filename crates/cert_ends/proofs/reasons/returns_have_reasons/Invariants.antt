use Rattle.std.proofs.Common.{take}
use Rattle.std.specs.Prelude.{All}
use Rattle.cert_laws.specs.Lines.{IsReturnBelow}
use Rattle.cert_laws.specs.Ways.{ReturnsBy}
use Rattle.cert_ends.proofs.reasons.returns_have_reasons.Given as goal

abbrev pub invariant-loop-line : goal.invariant-loop-line
invariant-loop-line g l =
    All (λ line. ReturnsBy (g.C.Chains.map l.code) (IsReturnBelow l.returns.lines.now line.rank) line.at line.why)
    (take l.line-index l.lines)
