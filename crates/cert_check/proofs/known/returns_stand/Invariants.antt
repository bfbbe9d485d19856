use Rattle.std.specs.Prelude.{IsSome}
use Rattle.cert_text.specs.declared.lines.ReturnLine.{ReturnLine}
use Rattle.cert_check.proofs.Each.{AllBelow}
use Rattle.cert_check.proofs.known.returns_stand.Given as goal

abbrev pub invariant-loop-line : goal.invariant-loop-line
invariant-loop-line g l = AllBelow (λ (line : ReturnLine). IsSome (g.C.Chains.map l.code line.at)) l.returns l.line-index
