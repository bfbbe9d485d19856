use Rattle.std.proofs.Common.{subst}
use Rattle.cfg_model.specs.Program.Instructions.{IsLawful}
use Rattle.crew.proofs.Ending.{ends_chain_at}
use Rattle.crew.proofs.learn.ends_chain.Goals as goal

pub returns-in-Straight-clause-lawful : goal.returns-in-Straight-clause-lawful
returns-in-Straight-clause-lawful g c = subst IsLawful c.requires.code c.flow.ensures.lawful

pub returns-in_default : goal.returns-in_default
returns-in_default g c = record {
  lawful = subst IsLawful c.requires.code c.flow.ensures.lawful;
  ends = λ _. ends_chain_at _ _ c.args.k _ c.requires.code c.flow.ensures.flow c.in_default.not-Straight;
}
