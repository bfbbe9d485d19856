use Rattle.cert_make.proofs.RankedLeads.{leaders_have_ranks}
use Rattle.cert_make.proofs.laws.leaders_have_ranks.Goals as goal

pub returns : goal.returns
returns c = leaders_have_ranks
