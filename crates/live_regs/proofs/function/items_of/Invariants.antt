use Rattle.std.proofs.Common.{◌≡◌, ℕ, ◌<◌, length, get_or}
use Rattle.cfg_model.specs.declared.live.Live.{Live}
use Rattle.live_regs.proofs.function.items_of.Given as goal

abbrev pub invariant-loop-place : goal.invariant-loop-place
invariant-loop-place l = (length l.items.items ≡ l.place) × ((i : ℕ) (d : Live) → i < l.place → get_or l.items.items i d ≡ record { block = get_or l.body i 0; mask = get_or l.masks i 0 })
