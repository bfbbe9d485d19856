use Rattle.std.proofs.Common.{AllPairs, sym, subst}
use Rattle.cfg_model.specs.Graph.Graph.{EdgeBefore}
use Rattle.test_machine.proofs.cover.moves_in_a_worked_outline.Goals as goal

pub judge_in-requires : goal.judge_in-requires
judge_in-requires g c = subst (AllPairs EdgeBefore) (sym c.deref.ensures.value) c.in_ok-edges.ensures
