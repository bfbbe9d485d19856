use Rattle.std.proofs.Common.{◌≡◌, ◌+◌, ◌-◌, ◌*◌, ◌<◌, ◌≤◌, suc, ◌∙◌, sym, arith}
use Rattle.jump_table.specs.Bound.{test_at}
use Rattle.jump_table.proofs.Nearest.{nearest-here, nearest-further, nearest-past, nearest-end}
use Rattle.jump_table.proofs.Searches.{all-tests}
use Rattle.jump_table.proofs.bound.bound_test.Goals as goal

pub loop-parcels-init : goal.loop-parcels-init
loop-parcels-init c =
    let way = c.args.way.now in
    all-tests way.image.now way.start way.jump

pub returns-then-way-parcels-clause-test : goal.returns-then-way-parcels-clause-test
returns-then-way-parcels-clause-test c =
    let way = c.args.way.now in
    let past : way.jump < way.start + 2 * c.loop-parcels.parcels = omega arith in
    sym (c.loop-parcels.invariant ∙ nearest-past (test_at way.image.now way.start way.jump) way.start way.jump (35 - c.loop-parcels.parcels) (2 * c.loop-parcels.parcels) past)

pub returns-in-Some-clause-test : goal.returns-in-Some-clause-test
returns-in-Some-clause-test c =
    let way = c.args.way.now in
    let parcels = c.loop-parcels.parcels in
    let left : 35 - parcels ≡ suc (35 - (parcels + 1)) = omega arith in
    let within : way.start + 2 * parcels ≤ way.jump = omega arith in
    let found = sym c.test_at.ensures.test ∙ c.in-Some.is in
    sym (c.loop-parcels.invariant ∙ nearest-here (test_at way.image.now way.start way.jump) way.start way.jump (35 - parcels) (35 - (parcels + 1)) (2 * parcels) c.in-Some.test left within found)

pub loop-parcels-preserved : goal.loop-parcels-preserved
loop-parcels-preserved c =
    let way = c.args.way.now in
    let parcels = c.loop-parcels.parcels in
    let left : 35 - parcels ≡ suc (35 - (parcels + 1)) = omega arith in
    let within : way.start + 2 * parcels ≤ way.jump = omega arith in
    let next : 2 * (parcels + 1) ≡ 2 * parcels + 2 = omega arith in
    let none = sym c.test_at.ensures.test ∙ c.in_default.is in
    c.loop-parcels.invariant ∙ nearest-further (test_at way.image.now way.start way.jump) way.start way.jump (35 - parcels) (35 - (parcels + 1)) (2 * parcels) (2 * (parcels + 1)) left next within none

pub returns-clause-test : goal.returns-clause-test
returns-clause-test c =
    let way = c.args.way.now in
    let left : 35 - c.loop-parcels.parcels ≡ 0 = omega arith in
    sym (c.loop-parcels.invariant ∙ nearest-end (test_at way.image.now way.start way.jump) way.start way.jump (35 - c.loop-parcels.parcels) (2 * c.loop-parcels.parcels) left)
