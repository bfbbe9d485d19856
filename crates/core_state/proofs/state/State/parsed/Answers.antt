use Rattle.std.proofs.Common.{ap, ◌∙◌}
use Rattle.std.specs.Prelude.{is_some}
use Rattle.core_state.proofs.LocalChanges.{parsed_local}
use Rattle.core_state.proofs.OneShard.{start_there, starts_kept, starts_changed}
use Rattle.core_state.proofs.state.State.parsed.Goals as goal

pub parsed-requires : goal.parsed-requires
parsed-requires c = ap is_some (start_there c.self.invariant c.self.view_is c.args.s c.shard.ensures c.index_mut.ensures.value) ∙ c.requires

pub invariant_of-self : goal.invariant_of-self
invariant_of-self c = starts_kept c.self.invariant c.self.view_is c.args.s c.shard.ensures c.index_mut.ensures.value (parsed_local c.args.s) c.parsed.ensures

pub returns-clause-parsed : goal.returns-clause-parsed
returns-clause-parsed c map = starts_changed c.self.invariant c.self.view_is c.args.s c.shard.ensures c.index_mut.ensures.value (parsed_local c.args.s) c.parsed.ensures
