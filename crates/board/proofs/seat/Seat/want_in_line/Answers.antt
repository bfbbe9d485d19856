use Rattle.board.proofs.Looks.{line_not_new}
use Rattle.board.proofs.seat.Seat.want_in_line.Goals as goal

pub returns-clause-read_back : goal.returns-clause-read_back
returns-clause-read_back g c = line_not_new g.J.Job.map g.J.Job.seeds c.args.self.now c.make.new.seat c.args.s c.make.result c.make.ensures.event c.make.ensures.answer
