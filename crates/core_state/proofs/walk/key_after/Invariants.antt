use Rattle.core_state.proofs.Walks.{IsWalking}
use Rattle.core_state.proofs.walk.key_after.Given as goal

-- no key that is asked for lies in a line that was passed
abbrev pub invariant-loop-j : goal.invariant-loop-j
invariant-loop-j g l = IsWalking g.S.Keys.has l.shards l.a l.line l.j l.least
