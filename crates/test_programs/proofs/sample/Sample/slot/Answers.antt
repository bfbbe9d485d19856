use Rattle.test_programs.proofs.Listed.{list_lawful}
use Rattle.test_programs.proofs.sample.Sample.slot.Goals as goal

pub returns-in-Some-clause-lawful : goal.returns-in-Some-clause-lawful
returns-in-Some-clause-lawful c = list_lawful c.args.self.now.slots.now c.args.self.now.targets.now c.args.self.now.lawful

pub returns-in-None-clause-lawful : goal.returns-in-None-clause-lawful
returns-in-None-clause-lawful c = list_lawful c.args.self.now.slots.now c.args.self.now.targets.now c.args.self.now.lawful
