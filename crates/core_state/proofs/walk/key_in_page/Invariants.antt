use Rattle.core_state.proofs.InPage.{IsPast}
use Rattle.core_state.proofs.walk.key_in_page.Given as goal

-- no key above a lies in a line that was passed
abbrev pub invariant-loop-j : goal.invariant-loop-j
invariant-loop-j g l = IsPast g.S.Keys.has l.shards l.a l.j
