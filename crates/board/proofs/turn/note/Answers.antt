use Rattle.std.proofs.Common.{sym, ◌∙◌, arith}
use Rattle.board.proofs.Events.{makes}
use Rattle.board.proofs.turn.note.Goals as goal

pub fetch_add-requires : goal.fetch_add-requires
fetch_add-requires g c = (
  c.requires.own ∙ sym c.board.view_is,
  omega (arith, c.requires.slot, c.board.invariant.0.1),
  makes g.J.Job.map g.J.Job.seeds c.board.invariant.1 c.board.inside.table.shared.table_id.slots c.args.seat.now.id c.args.slot c.args.seat.now.me c.requires.slot c.requires.made,
)
