use Rattle.split_laws.proofs.AllowedLaws as laws
use Rattle.split_laws.proofs.reasons_suffice.Goals as goal

pub returns : goal.returns
returns c = laws.reasons_suffice
