use Rattle.cert_text.specs.declared.lines.LeadLine.{LeadLine}
use Rattle.cert_laws.specs.Valid.{LeadsBy}
use Rattle.cert_check.proofs.Each.{AllBelow}
use Rattle.cert_check.proofs.leads.leads_have_reasons.Given as goal

abbrev pub invariant-loop-line : goal.invariant-loop-line
invariant-loop-line g l =
    AllBelow (λ (line : LeadLine). LeadsBy (g.C.Chains.map l.code) l.reasons.seeds.now l.reasons.part.now line.rank line.at line.why) l.reasons.part.now.leads l.line-index
