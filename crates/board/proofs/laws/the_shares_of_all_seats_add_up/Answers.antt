use Rattle.board.proofs.LawProofs.{shares_add_up}
use Rattle.board.proofs.laws.the_shares_of_all_seats_add_up.Goals as goal

pub returns : goal.returns
returns g c = shares_add_up g.J.Job.map g.J.Job.seeds
