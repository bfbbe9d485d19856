use Rattle.std.proofs.Common.{take}
use Rattle.std.specs.List.{AllZip}
use Rattle.cert_make.specs.Inner.Returns.{IsNextReturn}
use Rattle.cert_make.proofs.returns.step.Given as goal

-- the lines so far
abbrev pub invariant-loop-i : goal.invariant-loop-i
invariant-loop-i g l = AllZip (IsNextReturn (g.C.Chains.map l.code) l.lines) (take l.i l.lines) l.next.items
