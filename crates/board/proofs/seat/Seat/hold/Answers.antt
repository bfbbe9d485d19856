use Rattle.std.proofs.Common.{◌∙◌}
use Rattle.board.proofs.Rounds.{taken_out}
use Rattle.board.proofs.Holding.{held_like, held_truth, held_state, held_settled, held_by, held_part}
use Rattle.board.proofs.seat.Seat.hold.Goals as goal

pub lift-piece-requires-clause-out : goal.lift-piece-requires-clause-out
lift-piece-requires-clause-out g c =
    taken_out g.J.Job.map g.J.Job.seeds c.slot_at-slot.result c.slot_at-slot.ensures.below c.self.inside.seat c.self.invariant c.take.new.seat.me c.if-not-take.ensures.tried

pub invariant_of-result : goal.invariant_of-result
invariant_of-result g c = record {
  below = c.requires.shard;
  like = held_like g.J.Job.map g.J.Job.seeds c.slot_at-slot.result c.slot_at-slot.ensures.below _ c.slot_at-slot.ensures.place c.slot_at-slot.ensures.slot c.self.inside.seat c.self.invariant c.take.new.seat.me c.if-not-take.ensures.tried c.lift-piece.result c.lift-piece.ensures.value;
  truth = held_truth g.J.Job.map g.J.Job.seeds c.slot_at-slot.result c.slot_at-slot.ensures.below _ c.slot_at-slot.ensures.place c.slot_at-slot.ensures.slot c.self.inside.seat c.self.invariant c.take.new.seat.me c.if-not-take.ensures.tried c.lift-piece.result c.lift-piece.ensures.value;
}

pub invariant_of-self-2 : goal.invariant_of-self-2
invariant_of-self-2 g c =
    held_settled g.J.Job.map g.J.Job.seeds c.slot_at-slot.result c.slot_at-slot.ensures.below _ c.slot_at-slot.ensures.place c.slot_at-slot.ensures.slot c.self.inside.seat c.self.invariant c.take.new.seat.me c.if-not-take.ensures.tried c.lift-piece.result c.lift-piece.ensures.value
    c.lift-piece.new.seat c.lift-piece.ensures.left

pub returns-clause-won : goal.returns-clause-won
returns-clause-won g c =
    held_state g.J.Job.map g.J.Job.seeds c.slot_at-slot.result c.slot_at-slot.ensures.below _ c.slot_at-slot.ensures.place c.slot_at-slot.ensures.slot c.self.inside.seat c.self.invariant c.take.new.seat.me c.if-not-take.ensures.tried c.lift-piece.result c.lift-piece.ensures.value
    c.lift-piece.new.seat c.lift-piece.ensures.left c.args.self.now c.self.view_is (c.lift-piece.ensures.own ∙ c.take.ensures.own)

pub returns-clause-held : goal.returns-clause-held
returns-clause-held g c =
    held_by g.J.Job.map g.J.Job.seeds c.slot_at-slot.result c.slot_at-slot.ensures.below _ c.slot_at-slot.ensures.place c.slot_at-slot.ensures.slot c.self.inside.seat c.self.invariant c.take.new.seat.me c.if-not-take.ensures.tried c.lift-piece.result c.lift-piece.ensures.value
    c.lift-piece.new.seat c.lift-piece.ensures.left

pub returns-clause-part : goal.returns-clause-part
returns-clause-part g c =
    held_part g.J.Job.map g.J.Job.seeds c.slot_at-slot.result c.slot_at-slot.ensures.below _ c.slot_at-slot.ensures.place c.slot_at-slot.ensures.slot c.self.inside.seat c.self.invariant c.take.new.seat.me c.if-not-take.ensures.tried c.lift-piece.result c.lift-piece.ensures.value
    c.args.self.now c.self.view_is
