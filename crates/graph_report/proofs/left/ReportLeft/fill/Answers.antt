use Rattle.graph_report.proofs.Filling.{filled_then}
use Rattle.graph_report.proofs.left.ReportLeft.fill.Goals as goal

pub returns : goal.returns
returns c =
    filled_then c.fill.ensures (filled_then c.fill-2.ensures (filled_then c.fill-3.ensures c.fill_end.ensures))
