use Rattle.reached_graph.proofs.Making.{AreMade}
use Rattle.reached_graph.proofs.outline.part_of.Given as goal

abbrev pub invariant-loop-i : goal.invariant-loop-i
invariant-loop-i g l = AreMade (g.C.Chains.map l.code) l.starts l.lasts l.i l.blocks.items l.edges.items
