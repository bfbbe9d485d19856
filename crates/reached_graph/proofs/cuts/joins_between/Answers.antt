use Rattle.std.proofs.Common.{ℕ, ◌<◌, ◌≤◌, sym, arith}
use Rattle.std.proofs.lemmas.List.{take_all}
use Rattle.std.proofs.lemmas.List.Kept.{AllPairs-from_increasing}
use Rattle.reached_graph.proofs.Merging.{kept_more, kept_rises, kept_same}
use Rattle.reached_graph.proofs.cuts.joins_between.Goals as goal
use Rattle.reached_graph.proofs.cuts.joins_between.Goals.{then-from-number+then-number-until+in_ok-push, else-from-number, else-from-number-via-then-from-number+else-number-until, else-from-number-via-else-from-number}

pub loop-a-preserved : goal.loop-a-preserved
loop-a-preserved g c =
    let joins = c.args.joins.now in
    let number = g.C.Numbered.number c.args.code.now in
    let i = c.loop-a.a-index in
    let items = c.loop-a.between.items in
    let exact = c.loop-a.invariant.exact in
    let Low : ℕ → Type 0 = λ x. c.args.from ≤ number x in
    let High : ℕ → Type 0 = λ x. number x < c.args.until in
    elim c.if-from-number.branch [
      | then-from-number+then-number-until+in_ok-push w ↦
          rw (w.between-is, w.in_ok-push.ensures.items) (record {
            rise = kept_rises joins Low High i items c.loop-a-test.true exact (AllPairs-from_increasing joins c.requires.rise) c.loop-a.invariant.rise;
            exact = kept_more joins Low High i items c.loop-a-test.true exact (omega (arith, w.if-from-number.true, c.number-number.ensures)) (omega (arith, w.if-number-until.true, c.number-number.ensures));
          })
      | else-from-number w ↦
          rw w.between-is (record {
            rise = c.loop-a.invariant.rise;
            exact = kept_same joins Low High i items c.loop-a-test.true exact
                (λ low high. elim w.else-from-number.branch [
                  | else-from-number-via-then-from-number+else-number-until w' ↦ omega (arith, high, w'.if-number-until.false, c.number-number.ensures)
                  | else-from-number-via-else-from-number w' ↦ omega (arith, low, w'.if-from-number.false, c.number-number.ensures)
                ]);
          })
    ]

pub returns-clause-exact : goal.returns-clause-exact
returns-clause-exact g c = rw (sym (take_all c.loop-a.a-index c.args.joins.now (omega arith))) c.loop-a.invariant.exact
