use Rattle.std.proofs.Common.{sym, ◌∙◌, arith}
use Rattle.board.proofs.Hands.{returns}
use Rattle.board.proofs.turn.give.Goals as goal

pub store-requires : goal.store-requires
store-requires g c = (
  c.requires.own ∙ sym c.board.view_is,
  omega (arith, c.requires.slot, c.board.invariant.0.1),
  returns g.J.Job.map g.J.Job.seeds c.board.inside.table.shared.table_id.slots c.args.seat.now.id c.args.slot c.args.seat.now.me c.requires.slot c.board.invariant.0.0 c.requires.out,
)
