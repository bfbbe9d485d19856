use Rattle.std.proofs.Common.{◌-◌, ◌^◌, IsSome}
use Rattle.cfg_model.specs.Program.Chain.{OnChain}
use Rattle.reached_graph.proofs.blocks.last_to.Given as goal

abbrev pub invariant-loop-next : goal.invariant-loop-next
invariant-loop-next g l = record {
  on : OnChain (g.C.Chains.map l.code) l.s l.at;
  stands : IsSome (g.C.Chains.map l.code l.at);
}

abbrev pub decreases-loop-next : goal.decreases-loop-next
decreases-loop-next g l = 2 ^ 64 - l.at
