use Rattle.std.proofs.Common.{sym, ap, ◌∙◌, subst}
use Rattle.board.specs.Seat.{without_shard}
use Rattle.board.specs.Calls.{IsHeldBy}
use Rattle.board.proofs.Holding.{in_place, laid_out, given_state, given_settled}
use Rattle.board.proofs.seat.Seat.let_go.Goals as goal

pub lay-requires-clause-place : goal.lay-requires-clause-place
lay-requires-clause-place g c =
    in_place g.J.Job.map g.J.Job.seeds c.slot_at-slot.result _ c.slot_at-slot.ensures.place c.slot_at-slot.ensures.slot c.self.inside.seat c.self.invariant c.held.inside.piece c.args.self.now c.self.view_is
    (subst (IsHeldBy c.args.self.now) (sym c.held.view_is) c.requires.held)

pub give-requires-clause-out : goal.give-requires-clause-out
give-requires-clause-out g c =
    laid_out g.J.Job.map g.J.Job.seeds c.slot_at-slot.result _ c.slot_at-slot.ensures.place c.slot_at-slot.ensures.slot c.self.inside.seat c.self.invariant c.held.inside.piece c.args.self.now c.self.view_is
    (subst (IsHeldBy c.args.self.now) (sym c.held.view_is) c.requires.held) c.lay.new.seat.me c.lay.ensures.laid c.held.invariant.like

pub invariant_of-self : goal.invariant_of-self
invariant_of-self g c =
    given_settled g.J.Job.map g.J.Job.seeds c.slot_at-slot.result _ c.slot_at-slot.ensures.place c.slot_at-slot.ensures.slot c.self.inside.seat c.self.invariant c.held.inside.piece c.args.self.now c.self.view_is
    (subst (IsHeldBy c.args.self.now) (sym c.held.view_is) c.requires.held) c.lay.new.seat.me c.lay.ensures.laid c.give.new.seat c.give.ensures.given c.held.invariant.truth

pub returns-clause-given : goal.returns-clause-given
returns-clause-given g c =
    given_state g.J.Job.map g.J.Job.seeds c.slot_at-slot.result _ c.slot_at-slot.ensures.place c.slot_at-slot.ensures.slot c.self.inside.seat c.self.invariant c.held.inside.piece c.args.self.now c.self.view_is
    (subst (IsHeldBy c.args.self.now) (sym c.held.view_is) c.requires.held) c.lay.new.seat.me c.lay.ensures.laid c.give.new.seat c.give.ensures.given (c.give.ensures.own ∙ c.lay.ensures.own)
    ∙ ap (λ h. without_shard c.args.self.now h.shard h.value) c.held.view_is

pub returns-clause-truth : goal.returns-clause-truth
returns-clause-truth g c = (invariant_of-self g c).truth
