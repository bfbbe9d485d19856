use Rattle.std.proofs.Common.{sym, subst, eqb, arith}
use Rattle.std.specs.Prelude.{Contains}
use Rattle.std.specs.List.Sorted.{IsStrictlyIncreasing}
use Rattle.std.proofs.lemmas.List.Filters.{dedup_is}
use Rattle.std.proofs.lemmas.Map.Keys.{IsStrictlyIncreasing-dedup}
use Rattle.cfg_model.proofs.Graphs.Lists.{same_after_dedup}
use Rattle.reached_graph.specs.Inner.Walks.{AreDone}
use Rattle.reached_graph.proofs.Joining.{joined_more}
use Rattle.reached_graph.proofs.Leading.{none_join, walks_lead}
use Rattle.reached_graph.proofs.walks.walks_over.Goals as goal

pub of-requires-clause-marked : goal.of-requires-clause-marked
of-requires-clause-marked g c = λ κs lives a there.
    let blocks = c.requires.overlaps.2 in
    let overlaps = c.requires.overlaps.3 in
    (blocks.exact a).0 (overlaps.hold.start a (subst (λ xs. Contains xs a) c.deref.ensures.value there))

pub returns-then-is_empty-clause-leaders : goal.returns-then-is_empty-clause-leaders
returns-then-is_empty-clause-leaders g c = λ seeds given.
    let map = g.C.Chains.map c.args.code.now in
    let number = g.C.Numbered.number c.args.code.now in
    let found = c.requires.overlaps in
    none_join map number c.requires.lawful c.args.marks.now found.0 found.1 found.2 c.args.overlaps.now.starts.items found.3.hold seeds given (search arith)

pub returns-clause-leaders : goal.returns-clause-leaders
returns-clause-leaders g c = λ seeds given.
    let map = g.C.Chains.map c.args.code.now in
    let number = g.C.Numbered.number c.args.code.now in
    let found = c.requires.overlaps in
    let w = c.in_ok-walks.walks in
    let done = subst (λ xs. AreDone map number c.args.marks.now xs w) c.deref.ensures.value c.in_ok-walks.ensures in
    walks_lead map number c.requires.lawful c.args.marks.now found.0 found.1 found.2 c.args.overlaps.now.starts.items found.3.hold seeds given w done

pub returns-clause-more : goal.returns-clause-more
returns-clause-more g c =
    let found = c.in_ok-walks.walks.joins.items in
    let sorted = c.sort_unstable.new.self.items in
    let joins = c.dedup.new.self.items in
    let once = dedup_is eqb sorted joins c.dedup.ensures.filtered in
    joined_more (g.C.Chains.map c.args.code.now) (g.C.Numbered.number c.args.code.now) c.args.marks.now c.in_ok-walks.walks c.in_ok-walks.ensures.joined joins
    (subst IsStrictlyIncreasing (sym once) (IsStrictlyIncreasing-dedup sorted c.sort_unstable.ensures.sorted))
    (same_after_dedup found sorted joins c.sort_unstable.ensures.permutation once)
