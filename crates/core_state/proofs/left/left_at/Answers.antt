use Rattle.std.proofs.Common.{arith}
use Rattle.std.proofs.lemmas.Option.{IfSome_then}
use Rattle.core_state.proofs.PlacesLooked.{if_none, nothing_at_shard}
use Rattle.core_state.proofs.left.left_at.Goals as goal

pub returns-else-place-eq0 : goal.returns-else-place-eq0
returns-else-place-eq0 c = record {
  some = IfSome_then c.left_in.result c.left_in.ensures.some (λ name left. left c.args.seeds.now);
  none = if_none c.left_in.result (nothing_at_shard _ _ _ _ (omega (arith, c.if-place-eq0.false))) c.left_in.ensures.none;
}
