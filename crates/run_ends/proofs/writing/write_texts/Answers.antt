use Rattle.std.proofs.Common.{ℕ, ◌+◌, List, ◌++◌, ◌∙◌, drop, ap, subst, append_assoc, arith}
use Rattle.std.specs.List.{flat_map}
use Rattle.cfg_io.specs.Told.{AppendsPrefix}
use Rattle.run_ends.proofs.Pieces.{on_err, both_appended, prefix_behind, prefix_more, text_and_rest}
use Rattle.run_ends.proofs.writing.write_texts.Goals as goal

pub loop-text-preserved : goal.loop-text-preserved
loop-text-preserved g c =
    let texts = c.args.texts.now in
    let i = c.loop-text.text-index in
    let text = c.deref.result.now in
    let left = flat_map (λ t. t.items) (drop (i + 1) texts) in
    let (done, appended, whole) = c.loop-text.invariant.written in
    let all = text_and_rest texts i c.text-item.result text c.text-item.is c.loop-text-test.true c.deref.ensures.value in
    record {
      never_falls = omega (arith, c.loop-text.invariant.never_falls, c.write_whole.ensures.never_falls);
      written = (
        done ++ text,
        both_appended (g.O.Sink.written c.args.out.now) (g.O.Sink.written c.loop-text.out) (g.O.Sink.written c.write_whole.new.sink) done text appended c.in_ok-write_whole.ensures.whole,
        append_assoc done text left ∙ ap (λ (xs : List ℕ). done ++ xs) all ∙ whole,
      );
    }

pub returns-in_err-write_whole-clause-prefix : goal.returns-in_err-write_whole-clause-prefix
returns-in_err-write_whole-clause-prefix g c =
    let old = g.O.Sink.written c.args.out.now in
    let new = g.O.Sink.written c.write_whole.new.sink in
    let texts = c.args.texts.now in
    let i = c.loop-text.text-index in
    let text = c.deref.result.now in
    let left = flat_map (λ t. t.items) (drop (i + 1) texts) in
    let (done, appended, whole) = c.loop-text.invariant.written in
    let all = text_and_rest texts i c.text-item.result text c.text-item.is c.loop-text-test.true c.deref.ensures.value in
    let part : AppendsPrefix old ((done ++ text) ++ left) new =
    prefix_more old new (done ++ text) left (prefix_behind old (g.O.Sink.written c.loop-text.out) new done text appended c.in_err-write_whole.ensures.prefix) in
    on_err c.from_residual.result (subst (λ (xs : List ℕ). AppendsPrefix old xs new) (append_assoc done text left ∙ ap (λ (xs : List ℕ). done ++ xs) all ∙ whole) part)
