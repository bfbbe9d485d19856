use Rattle.cert_make.proofs.Unique.{one_part}
use Rattle.cert_make.proofs.laws.one_part.Goals as goal

pub returns : goal.returns
returns c = one_part
