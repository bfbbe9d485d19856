use Rattle.std.proofs.Common.{◌≡◌, map}
use Rattle.std.specs.List.{flat_map, range_with_len}
use Rattle.big_case.specs.Slots.{function, slot_bytes}
use Rattle.big_case.proofs.code.code_of.Given as goal

-- the functions up to here
abbrev pub invariant-loop-i : goal.invariant-loop-i
invariant-loop-i l = l.code.items ≡ flat_map slot_bytes (map (function l.n) (range_with_len 0 l.i))
