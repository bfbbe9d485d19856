use Rattle.std.proofs.Common.{arith}
use Rattle.std.specs.Prelude.{IsSome}
use Rattle.cert_text.specs.declared.lines.LeadLine.{LeadLine}
use Rattle.cert_check.proofs.Each.{all_hold}
use Rattle.cert_check.proofs.known.leads_stand.Goals as goal

pub returns : goal.returns
returns g c = all_hold (λ (line : LeadLine). IsSome (g.C.Chains.map c.args.code.now line.at)) c.args.leads.now c.loop-line.line-index (omega arith) c.loop-line.invariant
