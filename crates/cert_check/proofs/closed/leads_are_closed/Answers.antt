use Rattle.std.proofs.Common.{refl, arith}
use Rattle.cert_laws.specs.Lines.{IsLead}
use Rattle.cfg_model.specs.declared.graph.Edge.{Edge}
use Rattle.cert_check.proofs.Entered.{enter_leads, leads_closed}
use Rattle.cert_check.proofs.Each.{all_hold, false_true}
use Rattle.cert_check.proofs.closed.leads_are_closed.Goals as goal

pub returns-then-not-is_lead : goal.returns-then-not-is_lead
returns-then-not-is_lead g c = (
  λ e. false_true e,
  λ closed. false_true (c.if-not-is_lead.ensures.1
      (enter_leads (g.C.Chains.map c.args.code.now) (g.C.Numbered.number c.args.code.now) c.args.part.now c.args.blocks.now c.args.edges.now c.requires.lawful c.requires.leads c.requires.blocks c.requires.edges closed
      c.loop-edge.edge-index _ c.loop-edge-test.true)),
)

pub returns : goal.returns
returns g c = (
  λ e. leads_closed (g.C.Chains.map c.args.code.now) (g.C.Numbered.number c.args.code.now) c.args.part.now c.args.blocks.now c.args.edges.now c.requires.lawful c.requires.leads c.requires.blocks c.requires.edges
      ((all_hold (λ (edge : Edge). IsLead c.args.part.now.leads edge.to) c.args.edges.now c.loop-edge.edge-index (omega arith) c.loop-edge.invariant).0 refl),
  λ closed. refl,
)
