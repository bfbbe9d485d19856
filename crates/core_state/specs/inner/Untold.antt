-- What the set of untold waiters that is kept beside the waiters means.
use Rattle.std.specs.Prelude.{◌≡◌, Bool, false, not, Option, Some, None}
use Rattle.std.specs.FinMap as maps
use Rattle.std.specs.FinSet as sets
use Rattle.builder_model.specs.declared.state.Waiter.{Waiter}
use Rattle.builder_model.specs.Waiter.{waiter_cmp}

-- Whether a waiter is there and was not told, by its mark.
abbrev pub is_untold : Option Bool → Bool
is_untold None = false
is_untold (Some told) = not told

-- The set has the untold waiters, and no others.
abbrev pub AreUntold : sets.FinSet waiter_cmp → maps.FinMap waiter_cmp Bool → Type 0
AreUntold untold waiters = (w : Waiter) → sets.contains untold w ≡ is_untold (maps.get waiters w)
