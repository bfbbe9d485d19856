use Rattle.std.proofs.Common.{Some, sym, ◌∙◌}
use Rattle.board.proofs.Turns.{slot_out}
use Rattle.board.proofs.sights.look_out.Goals as goal

pub slot_mut-requires : goal.slot_mut-requires
slot_mut-requires g c = (
  c.requires.own ∙ sym c.board.view_is,
  slot_out c.args.slot (Some c.requires.out.piece) c.args.seat.now.me.1 c.requires.out.out.here,
)
