use Rattle.std.proofs.Common.{refl}
use Rattle.board.proofs.LawProofs.{first_knows_nothing, letting_go_undoes}
use Rattle.board.proofs.laws.a_call_moves_its_own_shard_alone.Goals as goal

pub returns-clause-first : goal.returns-clause-first
returns-clause-first g c = first_knows_nothing g.J.Job.map

pub returns-clause-turn : goal.returns-clause-turn
returns-clause-turn g c seat shard first second = refl

pub returns-clause-held : goal.returns-clause-held
returns-clause-held g c = letting_go_undoes
