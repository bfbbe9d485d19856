use Rattle.std.proofs.Common.{◌≡◌, ◌++◌}
use Rattle.std.specs.List.{flat_map}
use Rattle.report_crew.proofs.sharing.parts_of.Given as goal

-- the parts so far and what is left are all
abbrev pub invariant-loop : goal.invariant-loop
invariant-loop l = flat_map (λ part. part) l.parts.items ++ l.lines ≡ l.initial.lines
