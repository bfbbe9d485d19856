use Rattle.std.proofs.Common.{take}
use Rattle.cfg_model.specs.Graph.Listing.{Gains}
use Rattle.outline_funcs.specs.Inner.Entries.{CallsTo}
use Rattle.cfg_model.proofs.Graphs.Gaining.{Each}
use Rattle.outline_funcs.proofs.entries.called_in.Given as goal

abbrev pub invariant-loop-edge : goal.invariant-loop-edge
invariant-loop-edge l = Gains l.seeds l.called.items (Each (take l.edge-index l.edges) CallsTo)
