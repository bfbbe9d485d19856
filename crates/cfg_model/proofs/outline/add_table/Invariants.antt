use Rattle.std.proofs.Common.{◌≡◌, take}
use Rattle.cfg_model.specs.declared.graph.EdgeKind.TheVariants as kinds
use Rattle.cfg_model.specs.Graph.Listing.{Gains}
use Rattle.cfg_model.specs.Inner.Ways.{edge_to}
use Rattle.cfg_model.proofs.Graphs.Gaining.{Each}
use Rattle.cfg_model.proofs.outline.add_table.Given as goal

abbrev pub invariant-loop-to : goal.invariant-loop-to
invariant-loop-to g l = Gains l.fn.edges.items l.edges.items (Each (take l.to-index l.to-items) (λ to edge. edge ≡ edge_to l.from kinds.Table to))
