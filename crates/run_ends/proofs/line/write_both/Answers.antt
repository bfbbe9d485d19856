use Rattle.std.proofs.Common.{List, ℕ, subst}
use Rattle.cfg_io.specs.Told.{Appends, AppendsPrefix}
use Rattle.run_ends.proofs.Pieces.{on_err, on_err_map, prefix_more, prefix_behind}
use Rattle.run_ends.proofs.line.write_both.Goals as goal

pub returns-in_err-write_whole-clause-prefix : goal.returns-in_err-write_whole-clause-prefix
returns-in_err-write_whole-clause-prefix g c =
    let old = g.E.Sink.written c.args.err.now in
    let new = g.E.Sink.written c.write_whole.new.sink in
    let failed : AppendsPrefix old c.args.first.now new =
    subst (λ (x : List ℕ). AppendsPrefix old x new) c.as_bytes.ensures.value c.in_err-write_whole.ensures.prefix in
    on_err _ (prefix_more old new c.args.first.now c.args.second.now failed)

pub returns-clause-prefix : goal.returns-clause-prefix
returns-clause-prefix g c =
    let old = g.E.Sink.written c.args.err.now in
    let mid = g.E.Sink.written c.write_whole.new.sink in
    let new = g.E.Sink.written c.write_whole-2.new.sink in
    let appended : Appends old c.args.first.now mid =
    subst (λ (x : List ℕ). Appends old x mid) c.as_bytes.ensures.value c.in_ok-write_whole.ensures.whole in
    on_err_map c.write_whole-2.result
    (λ (failed : AppendsPrefix mid c.as_bytes-2.result.now new).
    prefix_behind old mid new c.args.first.now c.args.second.now appended
    (subst (λ (x : List ℕ). AppendsPrefix mid x new) c.as_bytes-2.ensures.value failed))
    c.write_whole-2.ensures.prefix
