use Rattle.cert_text.proofs.Parts.{certificates_same}
use Rattle.cert_text.proofs.laws.one_certificate.Goals as goal

pub returns : goal.returns
returns c = certificates_same
