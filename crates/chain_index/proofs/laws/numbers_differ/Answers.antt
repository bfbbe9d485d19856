use Rattle.chain_index.proofs.Counts.{numbers_rise, numbers_are_below}
use Rattle.chain_index.proofs.laws.numbers_differ.Goals as goal

pub returns-clause-rise : goal.returns-clause-rise
returns-clause-rise c = numbers_rise

pub returns-clause-below : goal.returns-clause-below
returns-clause-below c = numbers_are_below
