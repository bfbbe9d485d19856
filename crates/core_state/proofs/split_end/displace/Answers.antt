use Rattle.std.proofs.Common.{◌∙◌}
use Rattle.core_state.proofs.Displaced.{displaced_other, insert_one, undone}
use Rattle.core_state.proofs.split_end.displace.Goals as goal

pub returns-clause-displaced : goal.returns-clause-displaced
returns-clause-displaced c =
    insert_one _ _ c.args.x c.in_ok-insert.ensures.updates.0 ∙ displaced_other _ c.args.near c.args.x c.if-x-near.false

pub returns-clause-added : goal.returns-clause-added
returns-clause-added c =
    undone _ _ c.args.x c.in_ok-insert.ensures.updates.0 _ c.in_ok-insert.ensures.added c.in_ok-insert.ensures.unchanged
