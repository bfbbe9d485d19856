-- The line goes out in three steps. If one fails, those before it and a part of it went out.
use Rattle.std.proofs.Common.{◌++◌}
use Rattle.std.specs.Prelude.{codes}
use Rattle.run_ends.proofs.Pieces.{on_err, on_err_map, both_appended, prefix_more, prefix_behind}
use Rattle.run_ends.proofs.line.write_line.Goals as goal

pub returns-in_err-write_both-clause-prefix : goal.returns-in_err-write_both-clause-prefix
returns-in_err-write_both-clause-prefix g c =
    let head = c.args.program.now ++ codes ": " in
    let body = c.args.text.now ++ c.args.detail.now in
    let old = g.E.Sink.written c.args.err.now in
    let new = g.E.Sink.written c.write_both.new.err in
    on_err _ (prefix_more old new (head ++ body) (codes "\n") (prefix_more old new head body c.in_err-write_both.ensures.prefix))

pub returns-in_err-write_both-2-clause-prefix : goal.returns-in_err-write_both-2-clause-prefix
returns-in_err-write_both-2-clause-prefix g c =
    let head = c.args.program.now ++ codes ": " in
    let body = c.args.text.now ++ c.args.detail.now in
    let old = g.E.Sink.written c.args.err.now in
    let mid = g.E.Sink.written c.write_both.new.err in
    let new = g.E.Sink.written c.write_both-2.new.err in
    on_err _ (prefix_more old new (head ++ body) (codes "\n")
    (prefix_behind old mid new head body c.in_ok-write_both.ensures.whole c.in_err-write_both-2.ensures.prefix))

pub returns-clause-prefix : goal.returns-clause-prefix
returns-clause-prefix g c =
    let head = c.args.program.now ++ codes ": " in
    let body = c.args.text.now ++ c.args.detail.now in
    let old = g.E.Sink.written c.args.err.now in
    let first = g.E.Sink.written c.write_both.new.err in
    let mid = g.E.Sink.written c.write_both-2.new.err in
    let new = g.E.Sink.written c.write_whole.new.sink in
    on_err_map c.write_whole.result
    (prefix_behind old mid new (head ++ body) (codes "\n")
    (both_appended old first mid head body c.in_ok-write_both.ensures.whole c.in_ok-write_both-2.ensures.whole))
    c.write_whole.ensures.prefix
