use Rattle.split_laws.proofs.SettledLaws as laws
use Rattle.split_laws.proofs.starts_are_near_once.Goals as goal

pub returns : goal.returns
returns c = laws.starts_are_near_once
