use Rattle.std.proofs.Common.{List, subst}
use Rattle.std.proofs.lemmas.List.{take_all}
use Rattle.cert_make.specs.declared.fronts.Source.{Source}
use Rattle.cert_make.proofs.Sources.{LeastRank, rank_on}
use Rattle.cert_make.proofs.fronts.least_rank.Goals as goal

pub loop-source-preserved : goal.loop-source-preserved
loop-source-preserved c =
    rank_on c.args.sources.now c.loop-source.source-index c.lower.result c.loop-source.least c.loop-source-test.true c.loop-source.invariant c.lower.ensures.one_of_both c.lower.ensures.other c.lower.ensures.one

pub returns : goal.returns
returns c =
    subst (λ (xs : List Source). LeastRank xs c.loop-source.least) (take_all c.loop-source.source-index c.args.sources.now c.loop-source-test.false) c.loop-source.invariant
