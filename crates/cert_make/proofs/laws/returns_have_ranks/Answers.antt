use Rattle.cert_make.proofs.RankedReturns.{returns_have_ranks}
use Rattle.cert_make.proofs.laws.returns_have_ranks.Goals as goal

pub returns : goal.returns
returns c = returns_have_ranks
