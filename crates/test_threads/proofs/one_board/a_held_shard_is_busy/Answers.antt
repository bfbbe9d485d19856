use Rattle.std.proofs.Common.{ap, ◌∙◌}
use Rattle.board.specs.Slots.{slot_of}
use Rattle.board.specs.Seat.{SeatState, HoldsNothing, first_seat}
use Rattle.board.proofs.Ends.{nothing_held}
use Rattle.board.proofs.LawProofs.{still_nothing, let_go_holds}
use Rattle.test_threads.proofs.one_board.a_held_shard_is_busy.Goals as goal

pub split-first-requires-clause-nothing : goal.split-first-requires-clause-nothing
split-first-requires-clause-nothing g c =
    still_nothing (first_seat c.in_ok-board.board) c.in_ok-board.seat (ap (λ (s : SeatState). s.holds) c.in_ok-board.ensures.seat) nothing_held

pub works_beside-requires-clause-nothing : goal.works_beside-requires-clause-nothing
works_beside-requires-clause-nothing g c =
    still_nothing (first_seat c.in_ok-board.board) c.sent-second.result (ap (λ (s : SeatState). s.holds) c.sent-second.ensures ∙ ap (λ (s : SeatState). s.holds) c.split-first.ensures.goes) nothing_held

pub join-seat-requires-clause-nothing : goal.join-seat-requires-clause-nothing
join-seat-requires-clause-nothing g c =
    let first : HoldsNothing c.split-first.result.0 =
    still_nothing (first_seat c.in_ok-board.board) c.split-first.result.0 (ap (λ (s : SeatState). s.holds) c.split-first.ensures.stays ∙ ap (λ (s : SeatState). s.holds) c.in_ok-board.ensures.seat) nothing_held in
    still_nothing c.split-first.result.0 c.let_go.new.self
    (let_go_holds c.split-first.result.0 c.hold.new.self c.let_go.new.self c.in-Ok.held c.in-Ok.ensures.won c.let_go.ensures.given (first (slot_of c.in-Ok.held.shard)))
    first

pub join-seat-requires-clause-other_nothing : goal.join-seat-requires-clause-other_nothing
join-seat-requires-clause-other_nothing g c =
    still_nothing (first_seat c.in_ok-board.board) c.works_beside.new.seat
    (c.works_beside.ensures.holds ∙ (ap (λ (s : SeatState). s.holds) c.sent-second.ensures ∙ ap (λ (s : SeatState). s.holds) c.split-first.ensures.goes))
    nothing_held

pub close-requires-clause-nothing : goal.close-requires-clause-nothing
close-requires-clause-nothing g c =
    let first : HoldsNothing c.split-first.result.0 =
    still_nothing (first_seat c.in_ok-board.board) c.split-first.result.0 (ap (λ (s : SeatState). s.holds) c.split-first.ensures.stays ∙ ap (λ (s : SeatState). s.holds) c.in_ok-board.ensures.seat) nothing_held in
    still_nothing c.split-first.result.0 c.join-seat.result
    (ap (λ (s : SeatState). s.holds) c.join-seat.ensures.both ∙ let_go_holds c.split-first.result.0 c.hold.new.self c.let_go.new.self c.in-Ok.held c.in-Ok.ensures.won c.let_go.ensures.given (first (slot_of c.in-Ok.held.shard)))
    first
