use Rattle.board.proofs.Looks.{moved_known}
use Rattle.board.proofs.seat.Seat.moved.Goals as goal

pub returns-clause-end : goal.returns-clause-end
returns-clause-end g c = (moved_known g.J.Job.map g.J.Job.seeds c.args.self.now c.look.new.seat c.args.k c.look.result c.look.ensures.looked c.look.ensures.answer).0

pub returns-clause-anchored : goal.returns-clause-anchored
returns-clause-anchored g c = (moved_known g.J.Job.map g.J.Job.seeds c.args.self.now c.look.new.seat c.args.k c.look.result c.look.ensures.looked c.look.ensures.answer).1
