use Rattle.cert_make.proofs.ValidCanonical.{canonical_is_valid}
use Rattle.cert_make.proofs.laws.a_canonical_part_is_valid.Goals as goal

pub returns : goal.returns
returns c = canonical_is_valid
