use Rattle.std.proofs.Common.{[], ◌∷◌, length, ap, subst, arith}
use Rattle.std.proofs.lemmas.List.{append-nil}
use Rattle.std.proofs.lemmas.Result.{IfOk-weaker}
use Rattle.numbered.specs.Numbering.{IsMarked}
use Rattle.numbered.proofs.Listing.{marked_below}
use Rattle.reached_graph.specs.Inner.Cuts.{AreCutIn}
use Rattle.reached_graph.specs.Inner.Overlaps.{AreOverlaps, lasts_of, starts_of}
use Rattle.reached_graph.proofs.Leading.{known_starts, leaders_are}
use Rattle.reached_graph.proofs.Ranges.{cut_all}
use Rattle.reached_graph.proofs.leaders.Leaders.of.Goals as goal

pub walks_over-requires-clause-overlaps : goal.walks_over-requires-clause-overlaps
walks_over-requires-clause-overlaps g c κs within =
    let map = g.C.Chains.map c.args.code.now in
    let number = g.C.Numbered.number c.args.code.now in
    let marks = c.starts-marks.result.now in
    let starts = c.in_ok-leaders.leaders.starts.items in
    let lasts = c.in_ok-leaders.leaders.lasts.items in
    let first : AreOverlaps (starts_of (c.in_ok-leaders.leaders ∷ [])) (lasts_of (c.in_ok-leaders.leaders ∷ [])) c.in_ok-overlaps.overlaps = rw c.from_ref.ensures.value at c.in_ok-overlaps.ensures in (
      starts,
      lasts,
      cut_all map number (IsMarked map number marks) (length marks) starts lasts (marked_below map number marks) c.in_ok-leaders.ensures,
      rw (append-nil starts, append-nil lasts) at first,
    )

pub returns-in-Some : goal.returns-in-Some
returns-in-Some g c =
    let map = g.C.Chains.map c.args.code.now in
    let number = g.C.Numbered.number c.args.code.now in
    let marks = c.starts-marks.result.now in
    let all = c.in-Some.walks.starts.items in
    IfOk-weaker c.cut_again.result _ _
    (λ leaders are seeds terms.
    leaders_are map seeds terms.known (IsMarked map number all)
    (rw c.in-Some.is at (c.in_ok-walks.ensures.leaders seeds (known_starts map number seeds c.args.reached.now terms marks c.starts-marks.ensures)))
    leaders.starts.items leaders.lasts.items
    (cut_all map number (IsMarked map number all) (length marks) leaders.starts.items leaders.lasts.items (λ a on. omega (arith, terms.below a on.0, terms.starts_size, ap length c.starts-marks.ensures))
    (subst (λ xs. AreCutIn map number (IsMarked map number xs) 0 (length marks) leaders.starts.items leaders.lasts.items) c.deref.ensures.value are)))
    c.cut_again.ensures

pub returns-in-None : goal.returns-in-None
returns-in-None g c = λ seeds terms.
    let map = g.C.Chains.map c.args.code.now in
    let number = g.C.Numbered.number c.args.code.now in
    let marks = c.starts-marks.result.now in
    let starts = c.in_ok-leaders.leaders.starts.items in
    let lasts = c.in_ok-leaders.leaders.lasts.items in
    leaders_are map seeds terms.known (IsMarked map number marks)
    (rw c.in-None.is at (c.in_ok-walks.ensures.leaders seeds (known_starts map number seeds c.args.reached.now terms marks c.starts-marks.ensures)))
    starts lasts (cut_all map number (IsMarked map number marks) (length marks) starts lasts (marked_below map number marks) c.in_ok-leaders.ensures)
