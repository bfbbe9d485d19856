-- Functions and marked edges beside blocks make the graph of a program.
use Rattle.std.proofs.Common.{List, refl}
use Rattle.cfg_model.specs.declared.graph.Edge.{Edge}
use Rattle.cfg_model.specs.declared.graph.Function.{Function}
use Rattle.outline_funcs.specs.Tails.{AreMarksOf, CompleteGraphs}
use Rattle.outline_funcs.proofs.Marked.{marked_exact}

pub graph_of_parts : (functions : List Function) (old new : List Edge) → AreMarksOf functions old new → CompleteGraphs functions old new
graph_of_parts functions old new marks map seeds entry blocks outline exact complete = record {
  starts = refl;
  functions = exact;
  blocks = outline.all_blocks;
  edges = marked_exact map seeds functions exact complete old new outline.all_edges marks;
}
