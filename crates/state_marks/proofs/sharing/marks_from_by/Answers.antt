use Rattle.std.proofs.Common.{sym, subst}
use Rattle.state_marks.proofs.Told.{closed_stand, parts_below, told_if_made}
use Rattle.state_marks.specs.Inner.Parts.{IsSeenByShard}
use Rattle.state_marks.proofs.sharing.marks_from_by.Goals as goal

pub seen_by-requires-after_bounds : goal.seen_by-requires-after_bounds
seen_by-requires-after_bounds g c κs within = closed_stand (g.C.Chains.map c.args.code.now) c.requires.closed.0 c.args.state.maps c.requires.closed.1

pub marks_while_freed-requires-after_bounds : goal.marks_while_freed-requires-after_bounds
marks_while_freed-requires-after_bounds g c κs within =
    let map = g.C.Chains.map c.args.code.now in
    let state = c.args.state.maps in
    let number = g.C.Numbered.number c.args.code.now in
    parts_below map state (closed_stand map c.requires.closed.0 state c.requires.closed.1) number c.numbers.result c.numbers.ensures.numbers c.deref.result.now (subst (IsSeenByShard number state) (sym c.deref.ensures.value) c.in_ok-parts.ensures)

pub returns : goal.returns
returns g c =
    let map = g.C.Chains.map c.args.code.now in
    let state = c.args.state.maps in
    let number = g.C.Numbered.number c.args.code.now in
    told_if_made map state (closed_stand map c.requires.closed.0 state c.requires.closed.1) c.numbers.ensures.lawful number c.numbers.result c.numbers.ensures.numbers c.deref.result.now (subst (IsSeenByShard number state) (sym c.deref.ensures.value) c.in_ok-parts.ensures)
    c.marks_while_freed.result c.marks_while_freed.ensures
