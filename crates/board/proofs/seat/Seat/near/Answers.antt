use Rattle.board.proofs.Looks.{near_known, near_back}
use Rattle.board.proofs.seat.Seat.near.Goals as goal

pub returns-clause-end : goal.returns-clause-end
returns-clause-end g c = (near_known g.J.Job.map g.J.Job.seeds c.args.self.now c.look.new.seat c.args.k c.look.result c.look.ensures.looked c.look.ensures.answer).0

pub returns-clause-anchored : goal.returns-clause-anchored
returns-clause-anchored g c = (near_known g.J.Job.map g.J.Job.seeds c.args.self.now c.look.new.seat c.args.k c.look.result c.look.ensures.looked c.look.ensures.answer).1

pub returns-clause-read_back : goal.returns-clause-read_back
returns-clause-read_back g c = near_back g.J.Job.map g.J.Job.seeds c.args.self.now c.look.new.seat c.args.k c.look.result c.look.ensures.looked c.look.ensures.answer
