use Rattle.std.specs.Prelude.{IsTrue}
use Rattle.std.proofs.lemmas.Result.{on_ok_weaker}
use Rattle.cfg_model.specs.Graph.Edge.{Leaves}
use Rattle.cfg_model.specs.Program.Status.{Returns}
use Rattle.cfg_model.proofs.Graphs.Gaining.{Gains-same}
use Rattle.cfg_model.proofs.Graphs.WaysOn.{leads_same}
use Rattle.reached_graph.proofs.Calling.{asks_callee, tells_callee}
use Rattle.outline_funcs.proofs.PartSorted.{gains_moved}
use Rattle.reached_graph.proofs.edges.add_ways.Goals as goal

pub callee_returns-back-requires : goal.callee_returns-back-requires
callee_returns-back-requires g c =
    asks_callee (g.C.Chains.map c.args.code.now) c.requires.returns.0 _ _ c.requires.returns.2 c.args.k c.requires.returns.1 c.args.flow c.requires.flow

pub returns : goal.returns
returns g c =
    let map = g.C.Chains.map c.args.code.now in
    let told = tells_callee map c.requires.returns.0 _ _ c.requires.returns.2 c.args.k c.requires.returns.1 c.args.flow c.requires.flow c.callee_returns-back.result c.callee_returns-back.ensures in
    on_ok_weaker c.sort_from.result
    (λ same. gains_moved c.args.edges.now.items c.add_edges_by.new.edges.items c.sort_from.new.edges.items (Leaves map (Returns map) c.args.s c.args.k) same
    (Gains-same c.args.edges.now.items c.add_edges_by.new.edges.items
    (Leaves map (λ _. IsTrue c.callee_returns-back.result) c.args.s c.args.k) (Leaves map (Returns map) c.args.s c.args.k)
    (λ edge way. record { from = way.from; leads = leads_same (λ target fall call back. (told target fall call).0 back) way.leads })
    (λ edge way. record { from = way.from; leads = leads_same (λ target fall call back. (told target fall call).1 back) way.leads })
    c.in_ok-add_edges_by.ensures))
    c.sort_from.ensures
