use Rattle.std.proofs.Common.{ℕ, ◌-◌, ◌^◌, ◌≤◌, IsSome}
use Rattle.cfg_model.specs.Program.Chain.{OnChain}
use Rattle.core_state.proofs.along.climb.Given as goal

-- at is on the chain, and what lies at or above k is still ahead of it
abbrev pub invariant-loop-next : goal.invariant-loop-next
invariant-loop-next g l = record {
  reaches : OnChain (g.W.Walk.map l.walk) l.s l.at;
  known : IsSome (g.W.Walk.map l.walk l.at);
  ahead : (x : ℕ) → l.k ≤ x → OnChain (g.W.Walk.map l.walk) l.s x → OnChain (g.W.Walk.map l.walk) l.at x;
}

abbrev pub decreases-loop-next : goal.decreases-loop-next
decreases-loop-next g l = 2 ^ 64 - l.at
