use Rattle.core_state.proofs.LineMarks.{some_unparsed, none_unparsed}
use Rattle.core_state.proofs.line.Line.unparsed.Goals as goal

pub returns-clause-some : goal.returns-clause-some
returns-clause-some c = some_unparsed c.args.self.now c.args.a c.without.result c.without.ensures c.lowest.result c.lowest.ensures

pub returns-clause-none : goal.returns-clause-none
returns-clause-none c = none_unparsed c.args.self.now c.args.a c.without.result c.without.ensures c.lowest.result c.lowest.ensures
