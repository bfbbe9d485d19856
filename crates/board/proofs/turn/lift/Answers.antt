use Rattle.std.proofs.Common.{refl, sym, ap, ◌∙◌, subst, arith, Some, None, ◌∷◌, []}
use Rattle.board.specs.Locks.Share.{IsAboveZero}
use Rattle.board.specs.Seat.{HasSlot}
use Rattle.board.proofs.Hands.{leaves}
use Rattle.board.proofs.Turns.{slot_out, found_is, laid, has_values, left}
use Rattle.board.proofs.turn.lift.Goals as goal

pub exchange-requires : goal.exchange-requires
exchange-requires g c = (
  c.requires.own ∙ sym c.board.view_is,
  slot_out c.args.slot (Some c.requires.out.piece) c.args.seat.now.me.1 c.requires.out.out.here,
)

pub unwrap-piece-requires : goal.unwrap-piece-requires
unwrap-piece-requires g c =
    rw (found_is c.args.slot (Some c.requires.out.piece) c.exchange.result c.args.seat.now.me c.requires.out.out.here c.exchange.ensures.2) refl

pub load-requires : goal.load-requires
load-requires g c =
    let view = ap (λ m. m.0) c.exchange.ensures.3 in (
      c.exchange.ensures.0 ∙ (c.requires.own ∙ sym c.board.view_is),
      omega (arith, c.requires.slot, c.board.invariant.0.1),
      leaves g.J.Job.map g.J.Job.seeds c.board.inside.table.shared.table_id.slots c.exchange.new.seat.id c.args.slot c.exchange.new.seat.me
          c.requires.slot
          c.board.invariant.0.0
          (laid c.args.slot (Some c.requires.out.piece) None c.args.seat.now.me c.exchange.new.seat.me c.requires.out.out.here c.exchange.ensures.3)
          (ap (λ v. v.out) view ∙ c.requires.out.out.is_out)
          (subst (λ notes. HasSlot notes c.args.slot) (ap (λ v. v.notes) (sym view)) (has_values c.args.seat.now.me.0.notes c.args.slot c.requires.out.values c.requires.out.out.noted))
          (subst IsAboveZero (ap (λ v. v.notes.share) (sym view)) c.requires.out.out.share),
    )

pub returns-clause-value : goal.returns-clause-value
returns-clause-value g c =
    c.requires.out.out.here
    ∙ ap (λ o. (c.args.slot, o) ∷ []) (sym (found_is c.args.slot (Some c.requires.out.piece) c.exchange.result c.args.seat.now.me c.requires.out.out.here c.exchange.ensures.2) ∙ c.unwrap-piece.ensures)

pub returns-clause-left : goal.returns-clause-left
returns-clause-left g c =
    left c.args.slot None c.args.seat.now.me c.exchange.new.seat.me c.load.new.seat.me (ap (λ m. m.0) c.exchange.ensures.3)
    (laid c.args.slot (Some c.requires.out.piece) None c.args.seat.now.me c.exchange.new.seat.me c.requires.out.out.here c.exchange.ensures.3)
    c.load.ensures.2
