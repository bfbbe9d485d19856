use Rattle.std.proofs.Common.{Some, ap, ◌∙◌}
use Rattle.std.specs.Prelude.{IsTrue}
use Rattle.std.proofs.lemmas.Result.{on_ok_weaker}
use Rattle.cfg_model.specs.declared.flow.Flow.TheVariants.{Straight, Branch, Jump, Call, IndirectCall, Table}
use Rattle.cfg_model.proofs.Program.Code.{flow_stands}
use Rattle.cfg_model.specs.declared.graph.EdgeKind.TheVariants as kinds
use Rattle.cfg_model.specs.Inner.Ways.{IsEdgeTo}
use Rattle.cfg_model.proofs.Program.Landing.{may_land}
use Rattle.cfg_model.proofs.Graphs.Gaining.{Gains-then}
use Rattle.cfg_model.proofs.Graphs.WaysOn.{gains_by, ByCall, ByLanding}
use Rattle.cfg_model.proofs.outline.add_edges_by.Goals as goal

pub add_table-requires : goal.add_table-requires
add_table-requires g c = (c.type_bounds.sync-C, flow_stands (g.C.Chains.map c.args.code.now) c.args.k c.args.flow c.requires.flow)

pub add_landing-requires : goal.add_landing-requires
add_landing-requires g c = (c.type_bounds.sync-C, may_land (g.C.Chains.map c.args.code.now) c.args.k (Call c.in-Call.target c.in-Call.fall) (c.requires.flow ∙ ap Some c.in-Call.is) tt)

pub add_landing-requires-in-IndirectCall : goal.add_landing-requires-in-IndirectCall
add_landing-requires-in-IndirectCall g c = (c.type_bounds.sync-C, may_land (g.C.Chains.map c.args.code.now) c.args.k (IndirectCall c.in-IndirectCall.fall) (c.requires.flow ∙ ap Some c.in-IndirectCall.is) tt)

pub returns-in-Straight : goal.returns-in-Straight
returns-in-Straight g c =
    on_ok_weaker c.add_edge.result
    (λ gains. gains_by (g.C.Chains.map c.args.code.now) (λ _. IsTrue c.args.returns) c.args.s c.args.k (Some (Straight c.in-Straight.next)) c.args.edges.now.items c.add_edge.new.edges.items (c.requires.flow ∙ ap Some c.in-Straight.is) gains)
    c.add_edge.ensures

pub returns-in-Branch : goal.returns-in-Branch
returns-in-Branch g c =
    on_ok_weaker c.add_branch.result
    (λ gains. gains_by (g.C.Chains.map c.args.code.now) (λ _. IsTrue c.args.returns) c.args.s c.args.k (Some (Branch c.in-Branch.taken c.in-Branch.fall)) c.args.edges.now.items c.add_branch.new.edges.items (c.requires.flow ∙ ap Some c.in-Branch.is) gains)
    c.add_branch.ensures

pub returns-in-Jump : goal.returns-in-Jump
returns-in-Jump g c =
    on_ok_weaker c.add_edge-in-Jump.result
    (λ gains. gains_by (g.C.Chains.map c.args.code.now) (λ _. IsTrue c.args.returns) c.args.s c.args.k (Some (Jump c.in-Jump.target)) c.args.edges.now.items c.add_edge-in-Jump.new.edges.items (c.requires.flow ∙ ap Some c.in-Jump.is) gains)
    c.add_edge-in-Jump.ensures

pub returns-in_ok-add_call-in-Call : goal.returns-in_ok-add_call-in-Call
returns-in_ok-add_call-in-Call g c =
    let map = g.C.Chains.map c.args.code.now in
    on_ok_weaker c.add_landing.result
    (λ gains. gains_by map (λ _. IsTrue c.args.returns) c.args.s c.args.k (Some (Call c.in-Call.target c.in-Call.fall)) c.args.edges.now.items c.add_landing.new.edges.items (c.requires.flow ∙ ap Some c.in-Call.is)
    (Gains-then c.args.edges.now.items c.add_call.new.edges.items c.add_landing.new.edges.items (ByCall map (λ _. IsTrue c.args.returns) c.args.s c.args.k c.in-Call.target c.in-Call.fall) (ByLanding map (λ _. IsTrue c.args.returns) c.args.s c.args.k) c.in_ok-add_call-in-Call.ensures gains))
    c.add_landing.ensures

pub returns-in_ok-add_some-in-IndirectCall : goal.returns-in_ok-add_some-in-IndirectCall
returns-in_ok-add_some-in-IndirectCall g c =
    let map = g.C.Chains.map c.args.code.now in
    on_ok_weaker c.add_landing-in-IndirectCall.result
    (λ gains. gains_by map (λ _. IsTrue c.args.returns) c.args.s c.args.k (Some (IndirectCall c.in-IndirectCall.fall)) c.args.edges.now.items c.add_landing-in-IndirectCall.new.edges.items (c.requires.flow ∙ ap Some c.in-IndirectCall.is)
    (Gains-then c.args.edges.now.items c.add_some.new.edges.items c.add_landing-in-IndirectCall.new.edges.items (IsEdgeTo c.args.s kinds.After c.in-IndirectCall.fall) (ByLanding map (λ _. IsTrue c.args.returns) c.args.s c.args.k) c.in_ok-add_some-in-IndirectCall.ensures gains))
    c.add_landing-in-IndirectCall.ensures

pub returns-in-Table : goal.returns-in-Table
returns-in-Table g c =
    on_ok_weaker c.add_table.result
    (λ gains. gains_by (g.C.Chains.map c.args.code.now) (λ _. IsTrue c.args.returns) c.args.s c.args.k (Some (Table c.in-Table.entries c.in-Table.full c.in-Table.is_open)) c.args.edges.now.items c.add_table.new.edges.items (c.requires.flow ∙ ap Some c.in-Table.is) gains)
    c.add_table.ensures
