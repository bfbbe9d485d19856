use Rattle.core_state.proofs.AtEntries.{end_moves, end_wants, end_free}
use Rattle.core_state.proofs.end.End.left.Goals as goal

pub returns-then-is_some-clause-some : goal.returns-then-is_some-clause-some
returns-then-is_some-clause-some c = end_moves _ _ _ _ c.if-is_some.ensures c.least_moved.ensures

pub returns-in-Some-clause-none : goal.returns-in-Some-clause-none
returns-in-Some-clause-none c =
    end_free _ _ _ _ c.if-is_some.ensures c.least_moved.ensures _ _ c.near-near.ensures c.in-Some.ensures

pub returns-in-None-clause-some : goal.returns-in-None-clause-some
returns-in-None-clause-some c = end_wants _ _ _ _ c.near-near.ensures c.in-None.ensures
