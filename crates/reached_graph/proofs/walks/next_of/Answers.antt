use Rattle.std.proofs.Common.{sym, subst}
use Rattle.cfg_model.specs.Program.Chain.{EndsChain}
use Rattle.reached_graph.proofs.Walking.{ends_by}
use Rattle.reached_graph.proofs.walks.next_of.Goals as goal

pub returns-in_default : goal.returns-in_default
returns-in_default g c = subst EndsChain (sym c.flow.ensures.flow) (ends_by c.flow.result c.in_default.not-Straight)
