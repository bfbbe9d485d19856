use Rattle.cert_ends.proofs.ListedEnds.{are_ends}
use Rattle.cert_ends.proofs.ends.ends_of.Goals as goal

pub returns : goal.returns
returns g c = are_ends (g.C.Chains.map c.args.code.now) c.args.leads.now _ c.rising.result.items c.in_ok-ends.ensures c.rising.ensures.rising c.rising.ensures.same
