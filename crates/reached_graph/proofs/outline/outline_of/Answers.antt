use Rattle.reached_graph.proofs.Making.{lasts_reached, outline_made}
use Rattle.reached_graph.proofs.outline.outline_of.Goals as goal

pub part_of-requires-clause-returns : goal.part_of-requires-clause-returns
part_of-requires-clause-returns g c κs within = (
  c.requires.0,
  rw c.deref-2.ensures.value (lasts_reached (g.C.Chains.map c.args.code.now) c.requires.0 c.args.leaders.now.starts.items c.args.leaders.now.lasts.items c.requires.1),
  c.requires.2,
)

pub returns : goal.returns
returns g c = λ seeds are.
    rw (c.into_outline.ensures.blocks, c.into_outline.ensures.edges)
    (outline_made (g.C.Chains.map c.args.code.now) seeds c.args.leaders.now.starts.items c.args.leaders.now.lasts.items are c.in_ok-part.part.blocks.items c.in_ok-part.part.edges.items
    (rw (c.deref.ensures.value, c.deref-2.ensures.value) at c.in_ok-part.ensures))
