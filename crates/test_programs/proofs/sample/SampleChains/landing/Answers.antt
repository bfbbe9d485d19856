use Rattle.test_programs.proofs.Listed.{list_lawful, lands_nowhere}
use Rattle.test_programs.proofs.sample.SampleChains.landing.Goals as goal

pub returns-clause-landing : goal.returns-clause-landing
returns-clause-landing c = lands_nowhere c.args.self.now.slots.now c.args.self.now.targets.now c.args.a c.requires

pub returns-clause-lawful : goal.returns-clause-lawful
returns-clause-lawful c = list_lawful c.args.self.now.slots.now c.args.self.now.targets.now c.args.self.now.lawful
