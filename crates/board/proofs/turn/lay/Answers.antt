use Rattle.std.proofs.Common.{refl, sym, ap, ◌∙◌, arith, Some, None, ◌∷◌}
use Rattle.board.proofs.Hands.{reaches}
use Rattle.board.proofs.Turns.{slot_out, found_is, filled}
use Rattle.board.proofs.turn.lay.Goals as goal

pub load-requires : goal.load-requires
load-requires g c = (
  c.requires.own ∙ sym c.board.view_is,
  omega (arith, c.requires.slot, c.board.invariant.0.1),
  reaches g.J.Job.map g.J.Job.seeds c.board.inside.table.shared.table_id.slots c.args.seat.now.id c.args.slot c.args.seat.now.me c.requires.slot c.requires.place,
)

pub exchange-empty-requires : goal.exchange-empty-requires
exchange-empty-requires g c =
    let is = c.load.ensures.2 c.args.slot refl in (
      c.load.ensures.0 ∙ (c.requires.own ∙ sym c.board.view_is),
      slot_out c.args.slot None c.load.new.seat.me.1 (ap (λ m. m.1) is ∙ ap (λ l. (c.args.slot, None) ∷ l) c.requires.place.at_home),
    )

pub unreachable-requires : goal.unreachable-requires
unreachable-requires g c =
    let is = c.load.ensures.2 c.args.slot refl in
    c.in_default.not-None (found_is c.args.slot None c.exchange-empty.result c.load.new.seat.me (ap (λ m. m.1) is ∙ ap (λ l. (c.args.slot, None) ∷ l) c.requires.place.at_home) c.exchange-empty.ensures.2)

pub returns-clause-laid : goal.returns-clause-laid
returns-clause-laid g c =
    filled c.args.slot None (Some c.args.piece) c.args.seat.now.me c.load.new.seat.me c.exchange-empty.new.seat.me (c.load.ensures.2 c.args.slot refl) c.requires.place.at_home c.exchange-empty.ensures.3
