use Rattle.std.proofs.Common.{refl}
use Rattle.cert_ends.proofs.Placed.{lead_at}
use Rattle.cert_ends.proofs.leads.is_lead.Goals as goal

pub returns-in-Some : goal.returns-in-Some
returns-in-Some c = (λ _. lead_at c.args.leads.now _ c.args.a c.in-Some.ensures, λ _. refl)
