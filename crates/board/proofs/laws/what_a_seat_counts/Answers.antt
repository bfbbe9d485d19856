use Rattle.board.proofs.LawProofs.{tries_are_counted, others_move_no_count}
use Rattle.board.proofs.laws.what_a_seat_counts.Goals as goal

pub returns-clause-tries : goal.returns-clause-tries
returns-clause-tries g c = tries_are_counted g.J.Job.map g.J.Job.seeds

pub returns-clause-others : goal.returns-clause-others
returns-clause-others g c = others_move_no_count
