use Rattle.test_programs.proofs.Listed.{list_seeds}
use Rattle.test_programs.proofs.sample.Sample.seeds.Goals as goal

pub returns-clause-seeds : goal.returns-clause-seeds
returns-clause-seeds c = list_seeds c.args.self.now.slots.now c.args.self.now.targets.now c.args.self.now.seeds.now c.args.self.now.seeded
