use Rattle.board.proofs.Looks.{next_known}
use Rattle.board.proofs.seat.Seat.start_behind.Goals as goal

pub returns-clause-behind : goal.returns-clause-behind
returns-clause-behind g c = (next_known g.J.Job.map g.J.Job.seeds c.args.self.now c.look.new.seat c.args.a c.look.result c.look.ensures.looked c.look.ensures.answer).0

pub returns-clause-start : goal.returns-clause-start
returns-clause-start g c = (next_known g.J.Job.map g.J.Job.seeds c.args.self.now c.look.new.seat c.args.a c.look.result c.look.ensures.looked c.look.ensures.answer).1
