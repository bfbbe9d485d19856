use Rattle.cert_make.proofs.Settling.{no_call}
use Rattle.cert_make.proofs.returns.both_ways.Goals as goal

pub returns-in_default-clause-exact : goal.returns-in_default-clause-exact
returns-in_default-clause-exact g c =
    no_call (g.C.Chains.map c.args.code.now) c.args.returns.now.lines.now c.args.k c.args.flow c.requires.flow c.in_default.not-Call
