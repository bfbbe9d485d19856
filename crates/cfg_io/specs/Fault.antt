-- How often an input or a sink has failed, and when that number rose in a call.
use Rattle.std.specs.Prelude.{ℕ, ◌+◌, ◌-◌, ◌^◌, ◌<◌, ◌≤◌, ◌⊎◌, min}

-- the largest count; a count that has reached it stays there
abbrev pub most_faults : ℕ
most_faults = 2 ^ 64 - 1

-- what a counter of 64 bits counts
abbrev pub fault_count : ℕ → ℕ
fault_count n = min n most_faults

-- the counter after one more, which stops at the largest count
abbrev pub one_more : ℕ → ℕ
one_more n = min (n + 1) most_faults

-- the count rose in a call: it is greater at the end than at the start, or stands at the largest
-- count at the end
abbrev pub Rose : ℕ → ℕ → Type 0
Rose old new = (old < new) ⊎ (most_faults ≤ new)
