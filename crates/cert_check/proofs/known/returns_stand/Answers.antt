use Rattle.std.proofs.Common.{arith}
use Rattle.std.specs.Prelude.{IsSome}
use Rattle.cert_text.specs.declared.lines.ReturnLine.{ReturnLine}
use Rattle.cert_check.proofs.Each.{all_hold}
use Rattle.cert_check.proofs.known.returns_stand.Goals as goal

pub returns : goal.returns
returns g c = all_hold (λ (line : ReturnLine). IsSome (g.C.Chains.map c.args.code.now line.at)) c.args.returns.now c.loop-line.line-index (omega arith) c.loop-line.invariant
