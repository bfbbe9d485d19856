use Rattle.std.proofs.Common.{arith}
use Rattle.cert_make.proofs.Sources.{least_skip, least_take}
use Rattle.cert_make.proofs.fronts.with_source.Goals as goal

pub returns-then-source-rank : goal.returns-then-source-rank
returns-then-source-rank c = λ xs least. least_skip xs c.args.rank c.args.least c.args.source least (λ le. let lt = c.if-source-rank.true in omega arith)

pub returns : goal.returns
returns c = λ xs least.
    least_take xs c.args.rank c.args.least c.args.source c.lower.result least c.if-source-rank.false c.lower.ensures.one_of_both c.lower.ensures.other c.lower.ensures.one
