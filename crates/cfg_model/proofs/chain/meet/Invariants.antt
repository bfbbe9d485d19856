use Rattle.std.proofs.Common.{◌-◌, ◌^◌, IsSome}
use Rattle.cfg_model.specs.Program.Instructions.{IsLawful}
use Rattle.cfg_model.specs.Program.Chain.{OnChain}
use Rattle.cfg_model.proofs.Program.ChainPlaces.{GoesUp}
use Rattle.cfg_model.proofs.chain.meet.Given as goal

-- the two walks go up side by side, and the first one still leads to k
abbrev pub invariant-loop-a : goal.invariant-loop-a
invariant-loop-a g l = record {
  lawful : IsLawful (g.C.Chains.map l.code);
  up : GoesUp (g.C.Chains.map l.code) l.p l.q l.a l.b;
  leads : OnChain (g.C.Chains.map l.code) l.a l.k;
  known : IsSome (g.C.Chains.map l.code l.a);
  known_too : IsSome (g.C.Chains.map l.code l.b);
}

abbrev pub decreases-loop-a : goal.decreases-loop-a
decreases-loop-a g l = 2 ^ 64 - l.a
