use Rattle.std.proofs.Common.{sym, subst, arith}
use Rattle.board.specs.Seat.{SeatState}
use Rattle.crew.specs.inner.Team.{IsFree}
use Rattle.crew.proofs.GivenBack.{first_is_free, all_of, all_back}
use Rattle.crew.proofs.closed.work_for.Goals as goal

pub employ_all-requires-clause-seat : goal.employ_all-requires-clause-seat
employ_all-requires-clause-seat g c κs within =
    subst (λ (s : SeatState). IsFree c.in_ok-board.board s) (sym c.in_ok-board.ensures.seat) (first_is_free c.in_ok-board.board)

pub employ_all-requires-clause-hands : goal.employ_all-requires-clause-hands
employ_all-requires-clause-hands g c κs within = all_of c.in-Ok.pool c.in_ok-hands.hands.items c.in_ok-hands.ensures (omega (arith, c.in-Ok.ensures.workers))

pub gather-requires : goal.gather-requires
gather-requires g c = record { hands = all_back c.in-Ok.pool c.in_ok-hands.hands.items c.in_ok-seat.hands.items c.in_ok-hands.ensures c.in_ok-seat.ensures.hands }
