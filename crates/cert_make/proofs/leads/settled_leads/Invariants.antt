use Rattle.cert_make.proofs.LeadSteps.{AreLeadsStepped}
use Rattle.cert_make.proofs.leads.settled_leads.Given as goal

-- the lines after so many steps
abbrev pub invariant-loop-step : goal.invariant-loop-step
invariant-loop-step g l = AreLeadsStepped (g.C.Chains.map l.code) l.seeds l.fn.start.items l.lines.items l._step
