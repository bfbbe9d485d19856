use Rattle.std.proofs.Common.{◌≡◌, ◌≤◌, ℕ, length, get_or}
use Rattle.address_map.proofs.chunk.make_table.Given as goal

-- the table says what it said, and there are so many pages by now
abbrev pub invariant-loop-page : goal.invariant-loop-page
invariant-loop-page l =
    ((p : ℕ) → get_or l.upto.items p 0 ≡ get_or l.fn.upto.items p 0) × (l._page ≤ length l.upto.items)
