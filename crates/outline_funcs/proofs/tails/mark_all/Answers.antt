use Rattle.std.proofs.Common.{◌≡◌, ◌<◌, ◌≤◌, length, ap, arith}
use Rattle.outline_funcs.proofs.Marks.{marked_start, marked_more, marked_at_end}
use Rattle.outline_funcs.proofs.tails.mark_all.Goals as goal

pub loop-i-init : goal.loop-i-init
loop-i-init c = marked_start c.args.functions.now c.args.edges.now

pub mark_tail-requires-clause-within : goal.mark_tail-requires-clause-within
mark_tail-requires-clause-within c =
    let long : length c.as_slice-i-end.result.now ≡ length c.args.edges.now = ap length c.as_slice-i-end.ensures in
    let same : length c.loop-i.edges ≡ length c.args.edges.now = c.loop-i.invariant.same_length in
    omega arith

pub loop-i-preserved : goal.loop-i-preserved
loop-i-preserved c =
    let long : length c.as_slice-i-end.result.now ≡ length c.args.edges.now = ap length c.as_slice-i-end.ensures in
    let within : c.loop-i.i < length c.args.edges.now = omega arith in
    marked_more c.args.functions.now c.loop-i.i c.args.edges.now c.loop-i.edges c.mark_tail.new.edges within c.loop-i.invariant c.mark_tail.ensures

pub returns : goal.returns
returns c =
    let long : length c.as_slice-i-end.result.now ≡ length c.args.edges.now = ap length c.as_slice-i-end.ensures in
    let past : length c.args.edges.now ≤ c.loop-i.i = omega arith in
    marked_at_end c.args.functions.now c.loop-i.i c.args.edges.now c.loop-i.edges past c.loop-i.invariant
