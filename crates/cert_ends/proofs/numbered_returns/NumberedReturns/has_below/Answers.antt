use Rattle.cert_ends.proofs.Placed.{return_below}
use Rattle.cert_ends.proofs.numbered_returns.NumberedReturns.has_below.Goals as goal

pub returns-in-Some : goal.returns-in-Some
returns-in-Some g c = return_below c.args.self.now.lines.now c.requires.numbered.rise c.in-Some.line c.args.k c.args.rank c.in-Some.ensures.0 c.in-Some.ensures.1
