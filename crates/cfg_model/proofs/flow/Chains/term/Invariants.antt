use Rattle.std.proofs.Common.{◌-◌, ◌^◌, IsSome}
use Rattle.cfg_model.specs.Program.Chain.{OnChain}
use Rattle.cfg_model.proofs.flow.Chains.term.Given as goal

-- k is on the chain, and is the address of an instruction
abbrev pub invariant-loop-next : goal.invariant-loop-next
invariant-loop-next g l = record {
  reaches : OnChain (g.Self.Chains.map l.self) l.a l.k;
  known : IsSome (g.Self.Chains.map l.self l.k);
}

abbrev pub decreases-loop-next : goal.decreases-loop-next
decreases-loop-next g l = 2 ^ 64 - l.k
