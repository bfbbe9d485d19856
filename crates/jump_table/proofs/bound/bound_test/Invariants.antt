use Rattle.std.proofs.Common.{◌≡◌, ◌*◌, ◌-◌}
use Rattle.jump_table.specs.Bound.{test_at, bound_test}
use Rattle.jump_table.proofs.Nearest.{nearest_from}
use Rattle.jump_table.proofs.bound.bound_test.Given as goal

-- the test is further away than all distances so far
abbrev pub invariant-loop-parcels : goal.invariant-loop-parcels
invariant-loop-parcels l =
    bound_test l.way.image.now l.way.start l.way.jump
    ≡ nearest_from (test_at l.way.image.now l.way.start l.way.jump) l.way.start l.way.jump (2 * l.parcels) (35 - l.parcels)
