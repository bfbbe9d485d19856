use Rattle.std.specs.Prelude.{IsTrue}
use Rattle.cfg_model.specs.Graph.Edge.{Leaves}
use Rattle.cfg_model.proofs.Graphs.Gaining.{Gains-same}
use Rattle.cfg_model.proofs.Graphs.WaysOn.{leads_same}
use Rattle.cert_laws.specs.Lines.{IsReturn}
use Rattle.cert_laws.specs.Ways.{EndsIn}
use Rattle.outline_funcs.proofs.PartSorted.{gains_moved}
use Rattle.cert_check.proofs.edges.add_ways.Goals as goal

pub returns : goal.returns
returns g c =
    let map = g.C.Chains.map c.args.code.now in
    gains_moved c.args.edges.now.items c.add_edges_by.new.edges.items c.sort_from.new.edges.items (Leaves map (EndsIn map (IsReturn c.args.returns.now.lines.now)) c.args.s c.args.k) c.sort_from.ensures
    (Gains-same c.args.edges.now.items c.add_edges_by.new.edges.items
    (Leaves map (λ _. IsTrue c.callee_returns-back.result) c.args.s c.args.k) (Leaves map (EndsIn map (IsReturn c.args.returns.now.lines.now)) c.args.s c.args.k)
    (λ edge way. record { from = way.from; leads = leads_same (λ target fall call back. (c.callee_returns-back.ensures target fall call).0 back) way.leads })
    (λ edge way. record { from = way.from; leads = leads_same (λ target fall call back. (c.callee_returns-back.ensures target fall call).1 back) way.leads })
    c.in_ok-add_edges_by.ensures)
