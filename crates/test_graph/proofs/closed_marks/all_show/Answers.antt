use Rattle.test_graph.proofs.closed_marks.all_show.Goals as goal

pub lists_of-requires-2-after_bounds : goal.lists_of-requires-2-after_bounds
lists_of-requires-2-after_bounds g c κs = (_, c.in_ok-marks.ensures _ c.in_ok-state.ensures.closed)
