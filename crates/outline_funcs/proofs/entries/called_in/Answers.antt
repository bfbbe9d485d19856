use Rattle.std.proofs.Common.{ℕ, List, get_or, [], sym, subst}
use Rattle.std.proofs.lemmas.Option.{slice_get-get_or}
use Rattle.cfg_model.specs.declared.graph.Edge.{Edge}
use Rattle.cfg_model.specs.declared.graph.EdgeKind.TheVariants as kinds
use Rattle.cfg_model.specs.Graph.Listing.{Gains}
use Rattle.outline_funcs.specs.Inner.Entries.{CallsTo}
use Rattle.cfg_model.proofs.Graphs.Gaining.{Each, Gains-start, Gains-each, Gains-all}
use Rattle.outline_funcs.proofs.entries.called_in.Goals as goal

pub loop-edge-init : goal.loop-edge-init
loop-edge-init c =
    subst (λ (l : List ℕ). Gains c.args.seeds.now l (Each [] CallsTo)) (sym c.in_ok-called.ensures.items) (Gains-start CallsTo c.args.seeds.now)

pub loop-edge-preserved : goal.loop-edge-preserved
loop-edge-preserved c =
    let none : Edge = record { from = 0; to = 0; kind = kinds.Fall } in
    Gains-each c.args.edges.now c.loop-edge.edge-index (get_or c.args.edges.now c.loop-edge.edge-index none) CallsTo _ _ _
    (slice_get-get_or c.args.edges.now c.loop-edge.edge-index none c.loop-edge-test.true)
    c.loop-edge.invariant c.in_ok-add_called.ensures

pub returns : goal.returns
returns c = Gains-all c.args.edges.now c.loop-edge.edge-index CallsTo _ _ c.loop-edge-test.false c.loop-edge.invariant
