use Rattle.board.proofs.LawProofs.{all_are_kept, known_holds}
use Rattle.board.proofs.laws.all_shards_together_are_kept.Goals as goal

pub returns-clause-kept : goal.returns-clause-kept
returns-clause-kept g c = all_are_kept g.J.Job.map g.J.Job.seeds

pub returns-clause-known : goal.returns-clause-known
returns-clause-known g c = known_holds g.J.Job.map g.J.Job.seeds
