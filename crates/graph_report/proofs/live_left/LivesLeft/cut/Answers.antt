use Rattle.std.specs.List.{flat_map}
use Rattle.std.specs.Option.{option_map}
use Rattle.graph_report.specs.Line.{lives_line, live_line}
use Rattle.graph_report.specs.Inner.{count_left, name_left}
use Rattle.graph_report.proofs.Lefts.{lives_cut}
use Rattle.graph_report.proofs.live_left.LivesLeft.cut.Goals as goal

pub returns : goal.returns
returns c = λ names.
    let old = c.args.self.now in
    lives_cut names (count_left old.count lives_line) (name_left (option_map (λ s. s.now) old.name)) (flat_map live_line old.body.now)
    old.functions.now c.split_at.result.0.now c.split_at.result.1.now old.lives.now c.split_at-2.result.0.now c.split_at-2.result.1.now c.min-taken.result
    c.split_at.ensures.front c.split_at.ensures.back c.split_at-2.ensures.front c.split_at-2.ensures.back
