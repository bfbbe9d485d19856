use Rattle.std.proofs.Common.{AllPairs, subst, sym}
use Rattle.cfg_model.specs.Graph.Graph.{EdgeBefore}
use Rattle.walk_trace.proofs.walker.Walker.follow.Goals as goal

pub judge_in-requires : goal.judge_in-requires
judge_in-requires c = subst (AllPairs EdgeBefore) (sym c.as_slice.ensures) c.requires.edges
