use Rattle.graph_report.proofs.Lefts.{all_left}
use Rattle.graph_report.proofs.left.ReportLeft.new.Goals as goal

pub returns : goal.returns
returns c = λ names.
    rw (c.new.ensures names, c.new-2.ensures, c.new-3.ensures, c.has_functions.ensures, c.has_blocks.ensures, c.has_edges.ensures, c.as_slice.ensures, c.as_slice-2.ensures, c.as_slice-3.ensures)
    (all_left c.args.kind names c.args.graph.now)
