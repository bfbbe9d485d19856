use Rattle.outline_funcs.proofs.TailPlaces.{marks_listed}
use Rattle.outline_funcs.proofs.Together.{graph_of_parts}
use Rattle.outline_funcs.proofs.tail_sharing.mark_tails_by.Goals as goal

pub returns-clause-marks : goal.returns-clause-marks
returns-clause-marks g c =
    marks_listed c.args.functions.now c.in_ok-places.places.items
    c.args.edges.now c.set_tails.new.edges
    (rw (c.as_slice.ensures, c.as_slice-2.ensures) at c.in_ok-places.ensures)
    (rw c.deref.ensures.value at c.set_tails.ensures)

pub returns-clause-graph : goal.returns-clause-graph
returns-clause-graph g c =
    graph_of_parts c.args.functions.now c.args.edges.now c.set_tails.new.edges
    (returns-clause-marks g c)
