use Rattle.std.proofs.Common.{◌*◌, length, subst}
use Rattle.std.proofs.lemmas.Result.{IfOk-weaker}
use Rattle.cfg_model.specs.Graph.Leader.{IsLeader}
use Rattle.numbered.specs.Numbering.{IsMarked}
use Rattle.numbered.proofs.Listing.{marked_below}
use Rattle.reached_graph.specs.Inner.Overlaps.{lasts_of, starts_of}
use Rattle.reached_graph.specs.Inner.Parts.{AnswerParts}
use Rattle.reached_graph.proofs.RangeParts.{answers_same}
use Rattle.reached_graph.proofs.Ranges.{blocks_of}
use Rattle.reached_graph.proofs.sharing.made_by_range.Goals as goal

pub walks_over-requires-clause-overlaps : goal.walks_over-requires-clause-overlaps
walks_over-requires-clause-overlaps g c κs within =
    let map = g.C.Chains.map c.args.code.now in
    let number = g.C.Numbered.number c.args.code.now in
    let marks = c.args.marks.now in
    let ranges = c.args.ranges.now in (
      starts_of ranges,
      lasts_of ranges,
      blocks_of map number c.requires.rise (IsMarked map number marks) (λ a on. on.0) c.args.size (length marks) ranges c.requires.ranges (marked_below map number marks),
      c.in_ok-overlaps.ensures,
    )

pub returns-in-Some : goal.returns-in-Some
returns-in-Some g c =
    let map = g.C.Chains.map c.args.code.now in
    let number = g.C.Numbered.number c.args.code.now in
    let all = c.in-Some.walks.starts.items in
    IfOk-weaker c.made_at.result _ _
    (λ v parts seeds given.
    answers_same map number (IsMarked map number all) (IsLeader map seeds) (rw c.in-Some.is at (c.in_ok-walks.ensures.leaders seeds given)) c.args.size (length c.args.ranges.now * c.args.size) (length c.args.marks.now) v.items c.requires.ranges.all
    (subst (λ xs. AnswerParts map number (IsMarked map number xs) c.args.size (length c.args.ranges.now * c.args.size) v.items) c.as_slice-marks.ensures.value parts))
    c.made_at.ensures

pub returns : goal.returns
returns g c =
    let map = g.C.Chains.map c.args.code.now in
    let number = g.C.Numbered.number c.args.code.now in
    IfOk-weaker c.made_at-in-None.result _ _
    (λ v parts seeds given.
    answers_same map number (IsMarked map number c.args.marks.now) (IsLeader map seeds) (rw c.in-None.is at (c.in_ok-walks.ensures.leaders seeds given)) c.args.size (length c.args.ranges.now * c.args.size) (length c.args.marks.now) v.items
    c.requires.ranges.all parts)
    c.made_at-in-None.ensures
