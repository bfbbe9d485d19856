use Rattle.cert_make.proofs.Flowing.{AreFlowsUpTo}
use Rattle.cert_make.proofs.returns.flows_of.Given as goal

abbrev pub invariant-loop-i : goal.invariant-loop-i
invariant-loop-i g l = AreFlowsUpTo (g.C.Chains.map l.code) l.lines l.i l.flows.items
