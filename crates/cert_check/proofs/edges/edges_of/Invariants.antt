use Rattle.cert_check.proofs.Ways.{AreGained}
use Rattle.cert_check.proofs.edges.edges_of.Given as goal

abbrev pub invariant-loop-i : goal.invariant-loop-i
invariant-loop-i g l = AreGained (g.C.Chains.map l.code) l.leads l.returns.lines.now l.runs l.i l.edges.items
