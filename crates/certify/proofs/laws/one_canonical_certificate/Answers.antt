use Rattle.certify.proofs.FileLaws.{canonical-unique, canonical-valid, canonical-rises}
use Rattle.certify.proofs.laws.one_canonical_certificate.Goals as goal

pub returns-clause-one : goal.returns-clause-one
returns-clause-one c = canonical-unique

pub returns-clause-valid : goal.returns-clause-valid
returns-clause-valid c = canonical-valid

pub returns-clause-rises : goal.returns-clause-rises
returns-clause-rises c = canonical-rises
