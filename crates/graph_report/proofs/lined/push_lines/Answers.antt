use Rattle.std.proofs.Common.{◌<◌, length, arith}
use Rattle.graph_report.specs.declared.page.TheConstants.{PIECE}
use Rattle.graph_report.proofs.Filling.{moves_more, line_moves}
use Rattle.graph_report.proofs.lined.push_lines.Goals as goal

pub loop-at-preserved : goal.loop-at-preserved
loop-at-preserved g c =
    let page = c.loop-at.page in
    let new = c.push_line.new.page in
    let items = c.args.items.now in
    let less : length page < PIECE = omega arith in
    let lt : c.loop-at.at < length items = omega arith in
    let more = c.push_line.ensures.line.0 in
    let most = c.push_line.ensures.line.1 in
    record {
      within = omega arith;
      moves = moves_more c.loop-at.invariant.moves less
          (line_moves g.T.Lined.line items page new c.loop-at.at c.index-items-at.result lt c.index-items-at.is c.push_line.ensures.text)
          (omega arith);
      grows = omega (arith, c.loop-at.invariant.grows);
    }
