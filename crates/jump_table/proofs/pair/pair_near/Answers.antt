use Rattle.std.proofs.Common.{◌≡◌, ◌+◌, ◌-◌, ◌*◌, ◌<◌, ◌≤◌, suc, ◌∙◌, sym, arith}
use Rattle.jump_table.specs.Pair.{pair_at}
use Rattle.jump_table.proofs.Nearest.{not_before, nearest-here, nearest-further, nearest-past, nearest-end}
use Rattle.jump_table.proofs.Searches.{all-near}
use Rattle.jump_table.proofs.pair.pair_near.Goals as goal

pub loop-parcels-init : goal.loop-parcels-init
loop-parcels-init c = all-near c.args.image.now c.args.start c.args.a c.args.register

pub returns-then-is_before_section : goal.returns-then-is_before_section
returns-then-is_before_section c =
    let past : c.args.a < c.args.start + 2 * c.loop-parcels.parcels = c.is_before_section.ensures.0 c.if-is_before_section.true in
    sym (c.loop-parcels.invariant ∙ nearest-past (pair_at c.args.image.now c.args.start c.args.register) c.args.start c.args.a (33 - c.loop-parcels.parcels) (2 * c.loop-parcels.parcels) past)

pub returns-in-Some : goal.returns-in-Some
returns-in-Some c =
    let parcels = c.loop-parcels.parcels in
    let left : 33 - parcels ≡ suc (33 - (parcels + 1)) = omega arith in
    let within : c.args.start + 2 * parcels ≤ c.args.a = not_before c.is_before_section.result c.args.a (c.args.start + 2 * parcels) c.is_before_section.ensures.1 c.if-is_before_section.false in
    let found = sym c.pair_at.ensures ∙ c.in-Some.is in
    sym (c.loop-parcels.invariant ∙ nearest-here (pair_at c.args.image.now c.args.start c.args.register) c.args.start c.args.a (33 - parcels) (33 - (parcels + 1)) (2 * parcels) c.in-Some.value left within found)

pub loop-parcels-preserved : goal.loop-parcels-preserved
loop-parcels-preserved c =
    let parcels = c.loop-parcels.parcels in
    let left : 33 - parcels ≡ suc (33 - (parcels + 1)) = omega arith in
    let within : c.args.start + 2 * parcels ≤ c.args.a = not_before c.is_before_section.result c.args.a (c.args.start + 2 * parcels) c.is_before_section.ensures.1 c.if-is_before_section.false in
    let next : 2 * (parcels + 1) ≡ 2 * parcels + 2 = omega arith in
    let none = sym c.pair_at.ensures ∙ c.in_default.is in
    c.loop-parcels.invariant ∙ nearest-further (pair_at c.args.image.now c.args.start c.args.register) c.args.start c.args.a (33 - parcels) (33 - (parcels + 1)) (2 * parcels) (2 * (parcels + 1)) left next within none

pub returns : goal.returns
returns c =
    let left : 33 - c.loop-parcels.parcels ≡ 0 = omega arith in
    sym (c.loop-parcels.invariant ∙ nearest-end (pair_at c.args.image.now c.args.start c.args.register) c.args.start c.args.a (33 - c.loop-parcels.parcels) (2 * c.loop-parcels.parcels) left)
