use Rattle.std.proofs.Common.{ap, ◌∙◌}
use Rattle.std.specs.Prelude.{is_some}
use Rattle.std.specs.FinMap as maps
use Rattle.core_state.proofs.EndChanges.{settles}
use Rattle.core_state.proofs.ends.Ends.settle.Goals as goal

pub value_mut-requires : goal.value_mut-requires
value_mut-requires c = ap (λ m. is_some (maps.get m c.args.k)) c.self.view_is ∙ c.requires

pub returns : goal.returns
returns c = settles _ _ c.self.view_is c.args.k _ _ c.args.x c.value_mut.ensures.value c.settle.ensures
