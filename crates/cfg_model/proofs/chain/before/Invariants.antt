use Rattle.std.proofs.Common.{◌-◌, ◌^◌, IsSome}
use Rattle.cfg_model.specs.Program.Chain.{OnChain, GoesOnTo}
use Rattle.cfg_model.proofs.chain.before.Given as goal

-- at is on the chain, right before next, which leads to m
abbrev pub invariant-loop-next : goal.invariant-loop-next
invariant-loop-next g l = record {
  reaches : OnChain (g.C.Chains.map l.code) l.s l.at;
  onward : GoesOnTo (g.C.Chains.map l.code) l.at l.next;
  leads : OnChain (g.C.Chains.map l.code) l.next l.m;
  known : IsSome (g.C.Chains.map l.code l.next);
}

abbrev pub decreases-loop-next : goal.decreases-loop-next
decreases-loop-next g l = 2 ^ 64 - l.next
