use Rattle.test_graph.proofs.closed_marks.freed_shows.Goals as goal

pub lists_of-requires-after_bounds : goal.lists_of-requires-after_bounds
lists_of-requires-after_bounds g c κs within = (c.requires.closed.0, c.in_ok-marks.ensures c.requires.closed.0 c.requires.closed.1)
