use Rattle.std.proofs.Common.{ℕ, ◌<◌, ◌≤◌, ◌++◌, length, get_or, sym, arith}
use Rattle.std.proofs.lemmas.List.Elements.{Contains-get_or}
use Rattle.std.proofs.lemmas.List.Kept.{AllPairs-from_increasing}
use Rattle.reached_graph.proofs.Merging.{join_merged, none_merged, run, whole_exact, whole_rise}
use Rattle.reached_graph.proofs.Settling.{some_last, some_more, some_none, some_push}
use Rattle.reached_graph.proofs.leaders.Leaders.merged.Goals as goal

pub loop-a-init : goal.loop-a-init
loop-a-init g c =
    let map = g.C.Chains.map c.args.code.now in
    let number = g.C.Numbered.number c.args.code.now in
    rw (c.in_ok-with_capacity.ensures.items, c.in_ok-with_capacity-2.ensures.items) (record { merged = none_merged c.args.self.now.starts.items c.args.joins.now; cut = some_none map number c.args.marks.now })

pub loop-a-preserved : goal.loop-a-preserved
loop-a-preserved g c =
    let map = g.C.Chains.map c.args.code.now in
    let number = g.C.Numbered.number c.args.code.now in
    let marks = c.args.marks.now in
    let xs = c.args.self.now.starts.items in
    let ks = c.args.self.now.lasts.items in
    let ys = c.args.joins.now in
    let j = c.loop-a.a-index in
    let a : ℕ = get_or ys j 0 in
    let p = c.loop-a.place in
    let q = c.place_from-end.result in
    let all = c.loop-a.blocks.starts.items in
    let was = c.loop-a.invariant in
    let found = c.place_from-end.ensures in
    let up : p ≤ q = found.from in
    let low : q ≤ length xs = rw (sym c.deref.ensures.value) found.within in
    let under : (k : ℕ) → p ≤ k → k < q → get_or xs k 0 < a = rw (sym c.deref.ensures.value) found.below in
    let over : q < length xs → a ≤ get_or xs q 0 = rw (sym c.deref.ensures.value) found.above in
    let rise_xs = AllPairs-from_increasing xs c.requires.rise in
    let rise_ys = AllPairs-from_increasing ys c.requires.joins in
    rw (c.in_ok-push.ensures.items, c.in_ok-push-2.ensures.items, c.in_ok-add_blocks.ensures.starts, c.in_ok-add_blocks.ensures.lasts) (record {
      merged = join_merged xs ys rise_xs rise_ys p q j all was.merged up low c.loop-a-test.true under over (λ there. c.requires.apart a there (Contains-get_or ys j 0 c.loop-a-test.true));
      cut = some_push map number marks (all ++ run xs p q) (c.loop-a.blocks.lasts.items ++ run ks p q) (some_more map number marks xs ks c.requires.cut all c.loop-a.blocks.lasts.items was.cut p q up low) a c.last_of.result
          (some_last map number marks a c.last_of.result c.last_of.ensures);
    })

pub returns-clause-rise : goal.returns-clause-rise
returns-clause-rise g c =
    let xs = c.args.self.now.starts.items in
    rw c.in_ok-add_blocks-2.ensures.starts
    (whole_rise xs c.args.joins.now (AllPairs-from_increasing xs c.requires.rise) c.loop-a.place c.len-2.result c.loop-a.a-index c.loop-a.blocks.starts.items c.loop-a.invariant.merged (omega (arith, c.len-2.ensures)) (omega (arith, c.loop-a-test.false)))

pub returns-clause-exact : goal.returns-clause-exact
returns-clause-exact g c =
    let xs = c.args.self.now.starts.items in
    rw c.in_ok-add_blocks-2.ensures.starts
    (whole_exact xs c.args.joins.now (AllPairs-from_increasing xs c.requires.rise) c.loop-a.place c.len-2.result c.loop-a.a-index c.loop-a.blocks.starts.items c.loop-a.invariant.merged (omega (arith, c.len-2.ensures)) (omega (arith, c.loop-a-test.false)))

pub returns-clause-cut : goal.returns-clause-cut
returns-clause-cut g c =
    let map = g.C.Chains.map c.args.code.now in
    let number = g.C.Numbered.number c.args.code.now in
    let xs = c.args.self.now.starts.items in
    let was = c.loop-a.invariant in
    rw (c.in_ok-add_blocks-2.ensures.starts, c.in_ok-add_blocks-2.ensures.lasts)
    (some_more map number c.args.marks.now xs c.args.self.now.lasts.items c.requires.cut c.loop-a.blocks.starts.items c.loop-a.blocks.lasts.items was.cut c.loop-a.place c.len-2.result (omega (arith, was.merged.within, c.len-2.ensures)) (omega (arith, c.len-2.ensures)))
