use Rattle.cfg_model.proofs.Program.OneCut.{cuts_are_unique}
use Rattle.cfg_model.proofs.laws.one_map_of_cuts.Goals as goal

pub returns : goal.returns
returns c = cuts_are_unique
