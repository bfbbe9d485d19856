use Rattle.cert_laws.proofs.FileShown.{valid-shows-file}
use Rattle.cert_laws.proofs.OutlineShown.{told-outline-is-shown}
use Rattle.cert_laws.proofs.laws.a_valid_certificate_shows_the_file.Goals as goal

pub returns-clause-file : goal.returns-clause-file
returns-clause-file c = valid-shows-file

pub returns-clause-outline : goal.returns-clause-outline
returns-clause-outline c = told-outline-is-shown
