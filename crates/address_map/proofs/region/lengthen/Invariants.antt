use Rattle.std.proofs.Common.{◌≡◌, ◌≤◌, ℕ, length, get_or}
use Rattle.std.specs.FinMap as maps
use Rattle.address_map.proofs.region.lengthen.Given as goal

-- the chunks have what they had, and there are so many by now
abbrev pub invariant-loop-place : goal.invariant-loop-place
invariant-loop-place g l =
    ((i : ℕ) → get_or l.chunks.items i maps.empty ≡ get_or l.fn.chunks.items i maps.empty) × (l._place ≤ length l.chunks.items)
