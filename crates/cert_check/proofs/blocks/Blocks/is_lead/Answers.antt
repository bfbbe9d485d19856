use Rattle.std.proofs.Common.{refl}
use Rattle.cert_ends.proofs.Placed.{lead_at}
use Rattle.cert_check.proofs.blocks.Blocks.is_lead.Goals as goal

pub returns-in-Some : goal.returns-in-Some
returns-in-Some g c = (λ _. lead_at c.args.part.now.leads _ c.args.a c.in-Some.ensures, λ _. refl)
