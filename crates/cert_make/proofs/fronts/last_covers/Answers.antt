use Rattle.std.proofs.Common.{length, ◌-◌, sym}
use Rattle.cert_make.proofs.Sources.{last_listed}
use Rattle.cert_make.proofs.fronts.last_covers.Goals as goal

pub returns-in-Some : goal.returns-in-Some
returns-in-Some c = λ e. (c.in-Some.last.now, last_listed c.args.front.now (length c.args.front.now - 1) c.in-Some.last.now (sym c.in-Some.ensures.value), c.covers.ensures.0 e)
