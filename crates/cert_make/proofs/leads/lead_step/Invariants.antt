use Rattle.std.proofs.Common.{take}
use Rattle.cert_make.specs.Inner.Settled.{AreLeadsSettledBy}
use Rattle.cert_make.proofs.leads.lead_step.Given as goal

-- the lines so far
abbrev pub invariant-loop-i : goal.invariant-loop-i
invariant-loop-i g l = AreLeadsSettledBy (g.C.Chains.map l.code) l.seeds l.lines (take l.i l.lines) l.next.items
