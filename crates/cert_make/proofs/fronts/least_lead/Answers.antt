use Rattle.std.proofs.Common.{take}
use Rattle.cert_make.proofs.Sources.{least_on, least_end}
use Rattle.cert_make.proofs.fronts.least_lead.Goals as goal

pub loop-source-preserved : goal.loop-source-preserved
loop-source-preserved c =
    least_on c.args.sources.now c.loop-source.source-index c.args.rank c.with_source-least.result c.loop-source-test.true
    (c.with_source-least.ensures (take c.loop-source.source-index c.args.sources.now) c.loop-source.invariant)

pub returns : goal.returns
returns c = least_end c.args.sources.now c.loop-source.source-index c.args.rank c.loop-source.least c.loop-source-test.false c.loop-source.invariant
