use Rattle.std.proofs.Common.{ap, ◌∙◌}
use Rattle.std.proofs.lemmas.List.{get_or_default}
use Rattle.cfg_model.specs.declared.graph.Edge.{Edge}
use Rattle.live_regs.proofs.Edges.{between_at}
use Rattle.live_regs.proofs.search.end_from.Goals as goal

pub returns-else-edges-end : goal.returns-else-edges-end
returns-else-edges-end c = between_at _ _ _ _ c.requires.in_order c.requires.first c.loop-end.invariant.0 c.loop-end.invariant.1 c.loop-end.invariant.2
    (λ inside d e. c.if-edges-end.false (ap (λ (x : Edge). x.from) (get_or_default _ _ _ d inside) ∙ e))
