use Rattle.std.proofs.Common.{take}
use Rattle.std.specs.Prelude.{All, IsSome}
use Rattle.test_certificates.proofs.ends.returns_stand.Given as goal

abbrev pub invariant-loop-line : goal.invariant-loop-line
invariant-loop-line g l = All (λ line. IsSome (g.C.Chains.map l.code line.at)) (take l.line-index l.returns)
