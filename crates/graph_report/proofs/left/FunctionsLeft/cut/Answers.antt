use Rattle.std.specs.List.{flat_map}
use Rattle.std.specs.Option.{option_map}
use Rattle.graph_report.specs.Line.{functions_line, in_line}
use Rattle.graph_report.specs.Inner.{count_left, name_left}
use Rattle.graph_report.proofs.Lefts.{functions_cut}
use Rattle.graph_report.proofs.left.FunctionsLeft.cut.Goals as goal

pub returns : goal.returns
returns c = λ names.
    let old = c.args.self.now in
    functions_cut names (count_left old.count functions_line) (name_left (option_map (λ s. s.now) old.name)) (flat_map in_line old.body.now)
    old.functions.now c.split_at.result.0.now c.split_at.result.1.now c.functions_with-taken.result c.split_at.ensures.front c.split_at.ensures.back
