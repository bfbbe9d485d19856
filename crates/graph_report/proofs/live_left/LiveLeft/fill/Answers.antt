use Rattle.graph_report.proofs.Filling.{filled_then}
use Rattle.graph_report.proofs.live_left.LiveLeft.fill.Goals as goal

pub returns : goal.returns
returns c = filled_then c.fill.ensures c.fill_end.ensures
