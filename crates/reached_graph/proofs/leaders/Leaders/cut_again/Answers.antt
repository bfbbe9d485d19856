use Rattle.std.proofs.Common.{◌≡◌, get_or, sym, ap, subst}
use Rattle.std.specs.List.Sorted.{IsStrictlyIncreasing}
use Rattle.std.proofs.lemmas.List.Elements.{Contains-get_or}
use Rattle.std.proofs.lemmas.List.Kept.{AllPairs-from_increasing}
use Rattle.reached_graph.proofs.Ranges.{followed}
use Rattle.reached_graph.proofs.Settling.{all_exact, own_apart, own_stand}
use Rattle.reached_graph.proofs.leaders.Leaders.cut_again.Goals as goal

pub merged-requires-clause-stand : goal.merged-requires-clause-stand
merged-requires-clause-stand g c κs within =
    rw c.deref.ensures.value
    (own_stand (g.C.Chains.map c.args.code.now) (g.C.Numbered.number c.args.code.now) c.args.marks.now c.args.joins.now c.args.from c.args.until c.args.self.now.starts.items c.args.self.now.lasts.items c.requires.cut c.in_ok-joins.joins.items
    c.in_ok-joins.ensures.exact)

pub merged-requires-clause-apart : goal.merged-requires-clause-apart
merged-requires-clause-apart g c κs within =
    rw c.deref.ensures.value
    (own_apart (g.C.Chains.map c.args.code.now) (g.C.Numbered.number c.args.code.now) c.args.marks.now c.args.joins.now c.args.from c.args.until c.args.self.now.starts.items c.args.self.now.lasts.items c.requires.cut c.in_ok-joins.joins.items
    c.in_ok-joins.ensures.exact)

pub cut_all-requires-clause-stand : goal.cut_all-requires-clause-stand
cut_all-requires-clause-stand g c κs within = λ i d inside.
    let all = c.in_ok-blocks.blocks.starts.items in
    let exact =
    all_exact (g.C.Chains.map c.args.code.now) (g.C.Numbered.number c.args.code.now) c.args.marks.now c.args.joins.now c.args.from c.args.until c.args.self.now.starts.items c.args.self.now.lasts.items c.requires.cut c.in_ok-joins.joins.items
    c.in_ok-joins.ensures.exact all (rw c.deref.ensures.value at c.in_ok-blocks.ensures.exact) in
    ((exact (get_or all i d)).0 (Contains-get_or all i d inside)).0.0

pub cut_all-requires-clause-followed : goal.cut_all-requires-clause-followed
cut_all-requires-clause-followed g c κs within =
    let map = g.C.Chains.map c.args.code.now in
    let number = g.C.Numbered.number c.args.code.now in
    let all = c.in_ok-blocks.blocks.starts.items in
    let exact =
    all_exact map number c.args.marks.now c.args.joins.now c.args.from c.args.until c.args.self.now.starts.items c.args.self.now.lasts.items c.requires.cut c.in_ok-joins.joins.items c.in_ok-joins.ensures.exact all
    (rw c.deref.ensures.value at c.in_ok-blocks.ensures.exact) in
    followed map number c.requires.rise c.args.marks.now c.args.from c.args.until all (AllPairs-from_increasing all c.in_ok-blocks.ensures.rise) exact c.start_behind-behind.result (rw c.deref-2.ensures.value at c.start_behind-behind.ensures)

pub returns : goal.returns
returns g c =
    let map = g.C.Chains.map c.args.code.now in
    let number = g.C.Numbered.number c.args.code.now in
    let all = c.in_ok-blocks.blocks.starts.items in
    let same : c.cut_all.new.self.starts.items ≡ all = ap (λ v. v.items) c.cut_all.ensures.starts in
    let exact =
    all_exact map number c.args.marks.now c.args.joins.now c.args.from c.args.until c.args.self.now.starts.items c.args.self.now.lasts.items c.requires.cut c.in_ok-joins.joins.items c.in_ok-joins.ensures.exact all
    (rw c.deref.ensures.value at c.in_ok-blocks.ensures.exact) in
    record { rise = subst IsStrictlyIncreasing (sym same) c.in_ok-blocks.ensures.rise; exact = rw same exact; cut = c.cut_all.ensures.cut }
