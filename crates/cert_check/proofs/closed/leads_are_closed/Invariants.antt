use Rattle.cfg_model.specs.declared.graph.Edge.{Edge}
use Rattle.cert_laws.specs.Lines.{IsLead}
use Rattle.cert_check.proofs.Each.{AllBelow}
use Rattle.cert_check.proofs.closed.leads_are_closed.Given as goal

abbrev pub invariant-loop-edge : goal.invariant-loop-edge
invariant-loop-edge g l = AllBelow (λ (edge : Edge). IsLead l.part.leads edge.to) l.edges l.edge-index
