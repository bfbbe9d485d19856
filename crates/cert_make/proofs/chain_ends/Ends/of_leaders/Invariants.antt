use Rattle.cert_make.proofs.Ended.{AreEnded}
use Rattle.cert_make.proofs.chain_ends.Ends.of_leaders.Given as goal

abbrev pub invariant-loop-a : goal.invariant-loop-a
invariant-loop-a g l = AreEnded (g.C.Chains.map l.code) l.leaders l.a-index l.ends
