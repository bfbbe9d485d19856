use Rattle.std.proofs.Common.{ℕ, ◌-◌, ◌^◌, ◌≤◌, IsSome}
use Rattle.cfg_model.specs.Program.Chain.{OnChain}
use Rattle.cfg_model.proofs.chain.climb.Given as goal

-- at is on the chain, and what lies at or above k is still ahead of it
abbrev pub invariant-loop-next : goal.invariant-loop-next
invariant-loop-next g l = record {
  reaches : OnChain (g.C.Chains.map l.code) l.s l.at;
  known : IsSome (g.C.Chains.map l.code l.at);
  ahead : (x : ℕ) → l.k ≤ x → OnChain (g.C.Chains.map l.code) l.s x → OnChain (g.C.Chains.map l.code) l.at x;
}

abbrev pub decreases-loop-next : goal.decreases-loop-next
decreases-loop-next g l = 2 ^ 64 - l.at
