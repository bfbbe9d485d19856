use Rattle.cfg_model.proofs.Graphs.Places.{each_address_has_a_block, blocks_are_apart}
use Rattle.cfg_model.proofs.laws.one_block_for_each_address.Goals as goal

pub returns : goal.returns
returns c = record { each = each_address_has_a_block; apart = blocks_are_apart }
