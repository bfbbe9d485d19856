use Rattle.chain_index.proofs.Ends.{chain_end_is_unique}
use Rattle.chain_index.proofs.laws.one_chain_end.Goals as goal

pub returns : goal.returns
returns c = chain_end_is_unique
