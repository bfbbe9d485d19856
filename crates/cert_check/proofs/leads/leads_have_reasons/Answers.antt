use Rattle.std.proofs.Common.{ap, length, arith}
use Rattle.cert_text.specs.declared.lines.LeadLine.{LeadLine}
use Rattle.cert_laws.specs.Valid.{LeadsBy}
use Rattle.cert_check.proofs.Each.{all_hold}
use Rattle.cert_check.proofs.leads.leads_have_reasons.Goals as goal

pub returns : goal.returns
returns g c =
    let reasons = c.args.reasons.now in
    all_hold (λ (line : LeadLine). LeadsBy (g.C.Chains.map c.args.code.now) reasons.seeds.now reasons.part.now line.rank line.at line.why) reasons.part.now.leads c.loop-line.line-index
    (omega (arith, ap length c.as_slice-leads.ensures)) c.loop-line.invariant
