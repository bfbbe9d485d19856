use Rattle.std.proofs.Common.{ap, ◌∙◌}
use Rattle.std.specs.Prelude.{is_some}
use Rattle.core_state.proofs.LocalChanges.{settle_local}
use Rattle.core_state.proofs.OneShard.{end_there, ends_kept, ends_changed}
use Rattle.core_state.proofs.state.State.settle.Goals as goal

pub settle-requires : goal.settle-requires
settle-requires c = ap is_some (end_there c.self.invariant c.self.view_is c.args.k c.shard.ensures c.index_mut.ensures.value) ∙ c.requires

pub invariant_of-self : goal.invariant_of-self
invariant_of-self c = ends_kept c.self.invariant c.self.view_is c.args.k c.shard.ensures c.index_mut.ensures.value (settle_local c.args.k c.args.x) c.settle.ensures

pub returns-clause-settled : goal.returns-clause-settled
returns-clause-settled c map = ends_changed c.self.invariant c.self.view_is c.args.k c.shard.ensures c.index_mut.ensures.value (settle_local c.args.k c.args.x) c.settle.ensures
