use Rattle.std.proofs.lemmas.List.Kept.{AllPairs-from_increasing}
use Rattle.reached_graph.proofs.Ranges.{followed}
use Rattle.reached_graph.proofs.leaders.Leaders.cut.Goals as goal

pub lasts_in-requires-clause-followed : goal.lasts_in-requires-clause-followed
lasts_in-requires-clause-followed g c κs within =
    let starts = c.in_ok-starts.starts.items in
    let found = c.in_ok-starts.ensures in
    rw c.deref-2.ensures.value
    (followed (g.C.Chains.map c.args.code.now) (g.C.Numbered.number c.args.code.now) c.requires.rise c.args.marks.now c.args.from c.args.until starts (AllPairs-from_increasing starts found.rising) found.exact
    c.start_behind-behind.result (rw c.deref.ensures.value at c.start_behind-behind.ensures))
