use Rattle.std.proofs.Common.{arith}
use Rattle.cert_laws.specs.Lines.{IsLead}
use Rattle.cert_check.proofs.Each.{all_hold}
use Rattle.cert_check.proofs.known.seeds_lead.Goals as goal

pub returns : goal.returns
returns c = all_hold (IsLead c.args.leads.now) c.args.seeds.now c.loop-seed.seed-index (omega arith) c.loop-seed.invariant
