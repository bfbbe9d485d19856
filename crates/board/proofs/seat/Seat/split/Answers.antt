use Rattle.std.proofs.Common.{sym, ap, ◌∙◌, subst, arith}
use Rattle.board.specs.Seat.{HasSlot}
use Rattle.board.proofs.Hands.{splits}
use Rattle.board.proofs.seat.Seat.split.Goals as goal

pub split_seat-other-requires : goal.split_seat-other-requires
split_seat-other-requires g c = (
  ap (λ x. x.board) c.into_seat-seat.ensures.state ∙ (c.requires.own ∙ sym c.board.view_is),
  omega (arith, c.board.invariant.0.1),
  splits g.J.Job.map g.J.Job.seeds c.into_seat-seat.result.id c.into_seat-seat.result.me.0
      (λ j has. c.requires.nothing j (subst (λ notes. HasSlot notes j) (ap (λ x. x.notes) c.into_seat-seat.ensures.state) has))
      c.into_seat-seat.ensures.settled.lost
      c.into_seat-seat.ensures.settled.holds,
)
