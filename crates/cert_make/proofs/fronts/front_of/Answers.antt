use Rattle.cert_make.proofs.Sources.{front_end, front_more, front_none}
use Rattle.cert_make.proofs.fronts.front_of.Goals as goal

pub loop-source-init : goal.loop-source-init
loop-source-init c = front_none c.new-front.result.items c.new-front.ensures.items

pub loop-source-preserved : goal.loop-source-preserved
loop-source-preserved c = front_more c.args.sources.now c.loop-source.source-index c.loop-source.front.items c.add.new.front.items c.loop-source-test.true c.loop-source.invariant c.in_ok-add.ensures

pub returns : goal.returns
returns c = front_end c.args.sources.now c.loop-source.source-index c.loop-source.front.items c.loop-source-test.false c.loop-source.invariant
