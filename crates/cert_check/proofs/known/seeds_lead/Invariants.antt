use Rattle.cert_laws.specs.Lines.{IsLead}
use Rattle.cert_check.proofs.Each.{AllBelow}
use Rattle.cert_check.proofs.known.seeds_lead.Given as goal

abbrev pub invariant-loop-seed : goal.invariant-loop-seed
invariant-loop-seed l = AllBelow (IsLead l.leads) l.seeds l.seed-index
