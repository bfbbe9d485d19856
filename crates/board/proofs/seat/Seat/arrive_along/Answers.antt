use Rattle.board.proofs.Arrivals.{arrival_near}
use Rattle.board.proofs.seat.Seat.arrive_along.Goals as goal

pub returns-clause-near : goal.returns-clause-near
returns-clause-near g c =
    arrival_near g.J.Job.map g.J.Job.seeds c.make.ensures.lawful c.args.k c.args.s c.args.self.now c.make.new.seat c.make.result c.make.ensures.event c.make.ensures.answer
