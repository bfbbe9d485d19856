use Rattle.cert_make.proofs.ReturnSteps.{AreStepped}
use Rattle.cert_make.proofs.returns.settled_returns.Given as goal

-- the lines after so many steps
abbrev pub invariant-loop-step : goal.invariant-loop-step
invariant-loop-step g l = AreStepped (g.C.Chains.map l.code) l.fn.start.items l.lines.items l._step
