use Rattle.graph_report.proofs.Filling.{filled_then}
use Rattle.graph_report.proofs.list_left.ListLeft.fill.Goals as goal

pub returns : goal.returns
returns g c = filled_then c.fill_count.ensures.fills (rw c.fill_count.ensures.items at c.push_lines-self.ensures.fills)
