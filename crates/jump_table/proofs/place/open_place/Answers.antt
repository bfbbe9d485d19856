use Rattle.std.proofs.Common.{◌≡◌, ◌+◌, ◌-◌, ◌*◌, ◌<◌, ◌≤◌, suc, ◌∙◌, sym, arith}
use Rattle.jump_table.specs.Table.{place_from}
use Rattle.jump_table.proofs.Nearest.{nearest-here, nearest-further, nearest-past, nearest-end}
use Rattle.jump_table.proofs.Searches.{all-places}
use Rattle.jump_table.proofs.place.open_place.Goals as goal

pub loop-parcels-init : goal.loop-parcels-init
loop-parcels-init c =
    let way = c.args.way.now in
    all-places way.image.now way.start way.jump c.args.register

pub returns-then-way-parcels : goal.returns-then-way-parcels
returns-then-way-parcels c =
    let way = c.args.way.now in
    let past : way.jump < way.start + 2 * c.loop-parcels.parcels = omega arith in
    sym (c.loop-parcels.invariant ∙ nearest-past (place_from way.image.now way.start way.jump c.args.register) way.start way.jump (33 - c.loop-parcels.parcels) (2 * c.loop-parcels.parcels) past)

pub returns-in-Some : goal.returns-in-Some
returns-in-Some c =
    let way = c.args.way.now in
    let parcels = c.loop-parcels.parcels in
    let left : 33 - parcels ≡ suc (33 - (parcels + 1)) = omega arith in
    let within : way.start + 2 * parcels ≤ way.jump = omega arith in
    let found = sym c.place_from.ensures ∙ c.in-Some.is in
    sym (c.loop-parcels.invariant ∙ nearest-here (place_from way.image.now way.start way.jump c.args.register) way.start way.jump (33 - parcels) (33 - (parcels + 1)) (2 * parcels) c.in-Some.place left within found)

pub loop-parcels-preserved : goal.loop-parcels-preserved
loop-parcels-preserved c =
    let way = c.args.way.now in
    let parcels = c.loop-parcels.parcels in
    let left : 33 - parcels ≡ suc (33 - (parcels + 1)) = omega arith in
    let within : way.start + 2 * parcels ≤ way.jump = omega arith in
    let next : 2 * (parcels + 1) ≡ 2 * parcels + 2 = omega arith in
    let none = sym c.place_from.ensures ∙ c.in_default.is in
    c.loop-parcels.invariant ∙ nearest-further (place_from way.image.now way.start way.jump c.args.register) way.start way.jump (33 - parcels) (33 - (parcels + 1)) (2 * parcels) (2 * (parcels + 1)) left next within none

pub returns : goal.returns
returns c =
    let way = c.args.way.now in
    let left : 33 - c.loop-parcels.parcels ≡ 0 = omega arith in
    sym (c.loop-parcels.invariant ∙ nearest-end (place_from way.image.now way.start way.jump c.args.register) way.start way.jump (33 - c.loop-parcels.parcels) (2 * c.loop-parcels.parcels) left)
