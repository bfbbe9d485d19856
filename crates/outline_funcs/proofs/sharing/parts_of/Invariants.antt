use Rattle.std.proofs.Common.{◌≡◌, ◌++◌}
use Rattle.std.specs.List.{flat_map}
use Rattle.outline_funcs.proofs.sharing.parts_of.Given as goal

-- the parts so far and what is left are all entries
abbrev pub invariant-loop-share : goal.invariant-loop-share
invariant-loop-share l = flat_map (λ part. part.now) l.parts.items ++ l.rest ≡ l.fn.entries
