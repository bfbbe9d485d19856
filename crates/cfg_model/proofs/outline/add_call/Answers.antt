use Rattle.std.proofs.Common.{◌≡◌, sym, ◌∙◌}
use Rattle.std.specs.Prelude.{IsTrue}
use Rattle.std.proofs.lemmas.Bool.{false≢true}
use Rattle.std.proofs.lemmas.Result.{on_ok_weaker}
use Rattle.cfg_model.specs.declared.graph.EdgeKind.TheVariants as kinds
use Rattle.cfg_model.specs.Inner.Ways.{edge_to, IsEdgeTo}
use Rattle.cfg_model.proofs.Graphs.Gaining.{Gains-where, Gains-unless}
use Rattle.cfg_model.proofs.outline.add_call.Goals as goal

pub returns-then-returns : goal.returns-then-returns
returns-then-returns c =
    on_ok_weaker c.add_some.result
    (λ second. Gains-where c.args.edges.now.items c.add_edge.new.edges.items c.add_some.new.edges.items
    (λ edge. edge ≡ edge_to c.args.from kinds.Call c.args.target) (IsEdgeTo c.args.from kinds.After c.args.fall) (IsTrue c.args.returns)
    c.if-returns.true c.in_ok-add_edge.ensures second)
    c.add_some.ensures

pub returns-else-returns : goal.returns-else-returns
returns-else-returns c =
    Gains-unless c.args.edges.now.items c.add_edge.new.edges.items
    (λ edge. edge ≡ edge_to c.args.from kinds.Call c.args.target) (IsEdgeTo c.args.from kinds.After c.args.fall) (IsTrue c.args.returns)
    (λ back. false≢true (sym c.if-returns.false ∙ back)) c.in_ok-add_edge.ensures
