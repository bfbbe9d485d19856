use Rattle.std.proofs.Common.{arith}
use Rattle.parallel.proofs.drawn.map_drawn.Goals as goal

pub in_order-requires-clause-made : goal.in_order-requires-clause-made
in_order-requires-clause-made g c k d within =
    (c.in_ok-lists.ensures.each k d (omega (arith, within, c.in_ok-lists.ensures.len))).1.met
