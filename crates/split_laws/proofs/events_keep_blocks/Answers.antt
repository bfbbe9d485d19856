use Rattle.split_laws.proofs.BlockLaws as laws
use Rattle.split_laws.proofs.events_keep_blocks.Goals as goal

pub returns : goal.returns
returns c = laws.events_keep_blocks
