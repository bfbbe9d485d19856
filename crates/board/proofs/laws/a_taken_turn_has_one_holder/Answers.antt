use Rattle.board.proofs.LawProofs.{taken_is_held, held_once}
use Rattle.board.proofs.laws.a_taken_turn_has_one_holder.Goals as goal

pub returns-clause-one : goal.returns-clause-one
returns-clause-one g c = taken_is_held g.J.Job.map g.J.Job.seeds

pub returns-clause-once : goal.returns-clause-once
returns-clause-once g c = held_once g.J.Job.map g.J.Job.seeds
