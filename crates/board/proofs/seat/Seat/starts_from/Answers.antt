use Rattle.board.proofs.Looks.{from_back}
use Rattle.board.proofs.seat.Seat.starts_from.Goals as goal

pub returns-clause-read_back : goal.returns-clause-read_back
returns-clause-read_back g c = from_back g.J.Job.map g.J.Job.seeds c.args.self.now c.look.new.seat c.args.a c.look.result c.look.ensures.looked c.look.ensures.answer
