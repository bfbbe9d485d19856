use Rattle.std.proofs.Common.{◌≡◌, ◌∙◌, List, ℕ, get_or, subst}
use Rattle.std.proofs.lemmas.Option.{slice_get-get_or}
use Rattle.cfg_model.specs.declared.graph.EdgeKind.TheVariants as kinds
use Rattle.cfg_model.specs.Graph.Listing.{Gains}
use Rattle.cfg_model.specs.Program.Instructions.{targets_at}
use Rattle.cfg_model.specs.Inner.Ways.{edge_to}
use Rattle.cfg_model.proofs.Graphs.Gaining.{Each, Gains-each, Gains-all, Gains-pushed}
use Rattle.cfg_model.proofs.outline.add_table.Goals as goal

pub loop-to-preserved : goal.loop-to-preserved
loop-to-preserved g c =
    let targets : List ℕ = c.deref-to-items.result.now in
    let to : ℕ = get_or targets c.loop-to.to-index 0 in
    Gains-each targets c.loop-to.to-index to (λ to edge. edge ≡ edge_to c.args.from kinds.Table to)
    c.args.edges.now.items c.loop-to.edges.items c.push.new.self.items
    (slice_get-get_or targets c.loop-to.to-index 0 c.loop-to-test.true) c.loop-to.invariant
    (Gains-pushed c.loop-to.edges.items c.push.new.self.items (edge_to c.args.from kinds.Table to) c.in_ok-push.ensures.items)

pub returns : goal.returns
returns g c =
    let targets : List ℕ = c.deref-to-items.result.now in
    let same : targets ≡ targets_at (g.C.Chains.map c.args.code.now) c.args.k = c.deref-to-items.ensures.value ∙ c.in_ok-targets.ensures.targets in
    subst (λ ts. Gains c.args.edges.now.items c.loop-to.edges.items (Each ts (λ to edge. edge ≡ edge_to c.args.from kinds.Table to))) same
    (Gains-all targets c.loop-to.to-index (λ to edge. edge ≡ edge_to c.args.from kinds.Table to)
    c.args.edges.now.items c.loop-to.edges.items c.loop-to-test.false c.loop-to.invariant)
