use Rattle.cert_check.specs.Inner.Outlined.{AreMade}
use Rattle.cert_check.proofs.outline.blocks_made.Given as goal

abbrev pub invariant-loop-i : goal.invariant-loop-i
invariant-loop-i g l = AreMade (g.C.Chains.map l.code) l.leads l.runs l.i l.blocks.items
