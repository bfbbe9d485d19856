use Rattle.std.proofs.Common.{◌<◌, ◌≤◌, ltb, length, arith}
use Rattle.std.proofs.lemmas.Bool.{eqb-true, eq-eqb, ltb-true}
use Rattle.std.proofs.lemmas.List.{length_push}
use Rattle.outline_funcs.proofs.EachPlace.{each_pushed}
use Rattle.outline_funcs.proofs.Entered.{MarksBlock, mark_there, mark_none, still_before, all_entered}
use Rattle.outline_funcs.proofs.entries.entered_of.Goals as goal
use Rattle.outline_funcs.proofs.entries.entered_of.Goals.{then-next-entries, else-next-entries}

pub entry_from-next-requires-clause-before : goal.entry_from-next-requires-clause-before
entry_from-next-requires-clause-before c = λ k lt. c.loop-block.invariant.before k c.loop-block.block-index _ lt (omega arith) c.loop-block-test.true

pub loop-block-preserved : goal.loop-block-preserved
loop-block-preserved c =
    let blocks = c.args.blocks.now in
    let entries = c.args.entries.now in
    let i = c.loop-block.block-index in
    let next = c.entry_from-next.result in
    let from = c.entry_from-next.ensures in
    let mark : MarksBlock blocks entries i c.if-next-entries.push =
    elim c.if-next-entries.branch [
      | then-next-entries w ↦
          rw w.push-is (mark_there blocks entries c.requires.entries i next _ from.before from.there _ w.if-next-entries.true (eqb-true _ _, eq-eqb _ _))
      | else-next-entries w ↦
          let past : length entries ≤ next = w.if-next-entries.false in
          rw w.push-is
          (mark_none blocks entries c.requires.entries i next _ from.before from.there (ltb next (length entries))
          (λ t. let lt : next < length entries = ltb-true next (length entries) t in omega arith) past)
    ] in
    record {
      as_many = rw c.in_ok-push.ensures.items (omega (arith, length_push c.loop-block.entered.items c.if-next-entries.push, c.loop-block.invariant.as_many));
      within = from.within;
      before = still_before blocks entries c.requires.blocks i next _ c.loop-block-test.true from.before;
      exact = each_pushed (MarksBlock blocks entries) c.loop-block.entered.items _ c.if-next-entries.push i
          c.loop-block.invariant.as_many c.in_ok-push.ensures.items c.loop-block.invariant.exact mark;
    }

pub returns : goal.returns
returns c =
    all_entered c.args.blocks.now c.args.entries.now c.loop-block.entered.items c.loop-block.block-index
    c.loop-block.invariant.as_many c.loop-block-test.false c.loop-block.auto.block-index-end c.loop-block.invariant.exact
