-- The next start in a line is that of the shard that the line belongs to.
use Rattle.std.proofs.Common.{◌≡◌, ℕ, ◌/◌, List, get_or, sym, ap, ◌∙◌, arith}
use Rattle.std.specs.Prelude.{Option, is_some}
use Rattle.std.specs.Ordering.{nat_cmp}
use Rattle.std.specs.FinMap as maps
use Rattle.builder_model.specs.declared.state.Mark.{Mark}
use Rattle.builder_model.specs.Shard.{shard_of}
use Rattle.core_state.specs.Joined.{joined, AreShards}
use Rattle.core_state.specs.Line.{IsNextInLine}
use Rattle.core_state.proofs.Shards.{same_there}
use Rattle.address_map.proofs.Leasts.{least_as}

same_shard : (i a t : ℕ) → i ≡ shard_of a → t / 64 ≡ a / 64 → i ≡ shard_of t
same_shard i a t place line = omega arith

module _ (ms : List (maps.FinMap nat_cmp Mark)) (are : AreShards ms) (a i : ℕ) (place : i ≡ shard_of a) (shard : maps.FinMap nat_cmp Mark) (here : shard ≡ get_or ms i shard) (whole : maps.FinMap nat_cmp Mark) (seen : joined ms ≡ whole) where
  same : (t : ℕ) → t / 64 ≡ a / 64 → is_some (maps.get shard t) ≡ is_some (maps.get whole t)
  same t line = ap is_some (same_there ms are t i (same_shard i a t place line) shard here whole seen)

  pub line_joined : (o : Option ℕ) → IsNextInLine shard a o → IsNextInLine whole a o
  line_joined o least = least_as _ _ o (λ t h. (sym (same t h.2) ∙ h.0, h.1, h.2)) (λ t h. (same t h.2 ∙ h.0, h.1, h.2)) least
