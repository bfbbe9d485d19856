use Rattle.std.proofs.Common.{sym, ap, ◌∙◌, ◌++◌, subst, arith}
use Rattle.board.specs.Seat.{HasSlot, AnyShows}
use Rattle.board.proofs.Hands.{joins}
use Rattle.board.proofs.Parts.{shows_first, shows_second}
use Rattle.board.proofs.Seats.{joined_settled}
use Rattle.board.proofs.seat.Seat.join.Goals as goal

pub join_seat-requires : goal.join_seat-requires
join_seat-requires g c = (
  ap (λ x. x.board) c.into_seat-seat.ensures.state ∙ (c.requires.own ∙ sym c.board.view_is),
  ap (λ x. x.board) c.into_seat.ensures.state ∙ (c.requires.other_own ∙ sym c.board.view_is),
  c.into_seat.ensures.settled.at_home,
  omega (arith, c.board.invariant.0.1),
  joins g.J.Job.map g.J.Job.seeds c.into_seat-seat.result.id c.into_seat-seat.result.me.0
      (λ j has. c.requires.nothing j (subst (λ notes. HasSlot notes j) (ap (λ x. x.notes) c.into_seat-seat.ensures.state) has))
      c.into_seat.result.id c.into_seat.result.me.0
      (λ j has. c.requires.other_nothing j (subst (λ notes. HasSlot notes j) (ap (λ x. x.notes) c.into_seat.ensures.state) has))
      c.into_seat.ensures.settled.none_out,
)

pub of-requires : goal.of-requires
of-requires g c =
    joined_settled g.J.Job.map g.J.Job.seeds c.into_seat-seat.result c.into_seat.result c.join_seat.new.seat c.into_seat-seat.ensures.settled c.into_seat.ensures.settled c.join_seat.ensures.2

pub returns-clause-remembers : goal.returns-clause-remembers
returns-clause-remembers g c fact h =
    subst (λ seen. AnyShows g.J.Job.map seen fact)
    (sym (ap (λ x. x.notes.seen) c.of.ensures ∙ (ap (λ m. m.0.notes.seen) c.join_seat.ensures.2 ∙ λ k. (c.into_seat-seat.ensures.state k).notes.seen ++ (c.into_seat.ensures.state k).notes.seen)))
    (shows_first g.J.Job.map c.args.self.notes.seen c.args.other.notes.seen fact h)

pub returns-clause-other_remembers : goal.returns-clause-other_remembers
returns-clause-other_remembers g c fact h =
    subst (λ seen. AnyShows g.J.Job.map seen fact)
    (sym (ap (λ x. x.notes.seen) c.of.ensures ∙ (ap (λ m. m.0.notes.seen) c.join_seat.ensures.2 ∙ λ k. (c.into_seat-seat.ensures.state k).notes.seen ++ (c.into_seat.ensures.state k).notes.seen)))
    (shows_second g.J.Job.map c.args.self.notes.seen c.args.other.notes.seen fact h)
