-- Blocks that overlap others, as they are found.
use Rattle.std.specs.Prelude.{◌≡◌, ◌⊎◌, ◌+◌, ◌<◌, ◌≤◌, ℕ, List, length, get_or}
use Rattle.std.specs.Prelude.{Contains, IfSome, Some}
use Rattle.std.specs.Option.{MatchOption}
use Rattle.std.specs.List.{flat_map}
use Rattle.reached_graph.specs.declared.leaders.Leaders.{Leaders}
use Rattle.reached_graph.specs.declared.overlaps.Overlaps.{Overlaps}
use Rattle.reached_graph.specs.Inner.Blocks.{HoldMixed}

-- The starts of all these blocks, list after list, and their last addresses.
abbrev pub starts_of : List Leaders → List ℕ
starts_of lists = flat_map (λ blocks. blocks.starts.items) lists

abbrev pub lasts_of : List Leaders → List ℕ
lasts_of lists = flat_map (λ blocks. blocks.lasts.items) lists

-- There are as many last addresses as starts.
abbrev pub AreSized : Leaders → Type 0
AreSized blocks = length blocks.lasts.items ≡ length blocks.starts.items

-- Those among the blocks from these starts to these last addresses that overlap others are found.
pub record AreOverlaps (starts lasts : List ℕ) (found : Overlaps) : Type 0 where
  pub sized : length lasts ≡ length starts
  pub hold : HoldMixed starts lasts found.starts.items
  pub top : (i : ℕ) → i < length starts → get_or lasts i 0 ≤ found.top
  pub before : MatchOption found.before (length starts ≡ 0)
      (λ s. (i : ℕ) × (length starts ≡ i + 1) × (get_or starts i 0 ≡ s))

-- The start s and the one before it are found as well.
pub record IsFound (s : ℕ) (old new : Overlaps) : Type 0 where
  pub here : Contains new.starts.items s
  pub earlier : IfSome old.before (λ b. Contains new.starts.items b)
  pub kept : (a : ℕ) → Contains old.starts.items a → Contains new.starts.items a
  pub only : (a : ℕ) → Contains new.starts.items a
      → Contains old.starts.items a ⊎ ((a ≡ s) ⊎ (old.before ≡ Some a))
  pub before : new.before ≡ old.before
  pub top : new.top ≡ old.top
