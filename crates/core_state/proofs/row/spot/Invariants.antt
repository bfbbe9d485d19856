use Rattle.std.proofs.Common.{◌≡◌, ℕ, Bool, ◌<◌, get_or}
use Rattle.std.specs.declared.cmp.Ordering.TheVariants.{Less}
use Rattle.builder_model.specs.declared.state.Waiter.{Waiter}
use Rattle.builder_model.specs.Waiter.{waiter_cmp}
use Rattle.core_state.proofs.row.spot.Given as goal

abbrev pub invariant-loop-i : goal.invariant-loop-i
invariant-loop-i l = (k : ℕ) (d : Waiter × Bool) → k < l.i → waiter_cmp (get_or l.row k d).0 l.w ≡ Less
