use Rattle.std.proofs.Common.{◌-◌, ◌^◌, IsSome}
use Rattle.cfg_model.specs.Program.Instructions.{IsLawful}
use Rattle.cfg_model.specs.Program.Chain.{OnChain}
use Rattle.cfg_model.proofs.Program.ChainPlaces.{GoesUp}
use Rattle.core_state.proofs.along.meet_along.Given as goal

-- the two walks go up side by side, and the first one still leads to k
abbrev pub invariant-loop-a : goal.invariant-loop-a
invariant-loop-a g l = record {
  lawful : IsLawful (g.W.Walk.map l.walk);
  up : GoesUp (g.W.Walk.map l.walk) l.p l.q l.a l.b;
  leads : OnChain (g.W.Walk.map l.walk) l.a l.k;
  known : IsSome (g.W.Walk.map l.walk l.a);
  known_too : IsSome (g.W.Walk.map l.walk l.b);
}

abbrev pub decreases-loop-a : goal.decreases-loop-a
decreases-loop-a g l = 2 ^ 64 - l.a
