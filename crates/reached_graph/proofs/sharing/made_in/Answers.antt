use Rattle.reached_graph.proofs.RangeParts.{lasts_known}
use Rattle.reached_graph.proofs.sharing.made_in.Goals as goal

pub part_of-requires-clause-returns : goal.part_of-requires-clause-returns
part_of-requires-clause-returns g c κs within = (
  c.requires.leaders.0,
  rw c.deref-2.ensures.value
      (lasts_known (g.C.Chains.map c.args.code.now) (g.C.Numbered.number c.args.code.now) c.args.marks.now c.requires.leaders.0 c.requires.leaders.1 c.args.from c.args.until c.in_ok-leaders.leaders.starts.items c.in_ok-leaders.leaders.lasts.items
      c.in_ok-leaders.ensures),
  c.requires.leaders.2,
)
