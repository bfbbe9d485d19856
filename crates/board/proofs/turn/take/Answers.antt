use Rattle.std.proofs.Common.{sym, ◌∙◌, arith}
use Rattle.board.proofs.Steps.{tries}
use Rattle.board.proofs.turn.take.Goals as goal

pub compare_exchange-requires : goal.compare_exchange-requires
compare_exchange-requires g c = (
  c.requires.own ∙ sym c.board.view_is,
  omega (arith, c.requires.slot, c.board.invariant.0.1),
  tries g.J.Job.map g.J.Job.seeds c.board.inside.table.shared.table_id.slots c.args.seat.now.id c.args.slot c.args.seat.now.me
      c.requires.slot
      c.requires.settled.share
      c.requires.settled.none_out
      c.requires.settled.holds
      c.requires.free,
)
