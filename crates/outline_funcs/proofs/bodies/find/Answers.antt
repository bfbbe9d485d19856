use Rattle.std.proofs.Common.{◌≡◌, ◌<◌, ◌≤◌, length, get_or, ◌∙◌, arith}
use Rattle.std.proofs.lemmas.List.{get_or_default}
use Rattle.std.proofs.lemmas.List.Elements.{Contains-get_or}
use Rattle.outline_funcs.proofs.Following.{body_start, body_more, body_at_end}
use Rattle.outline_funcs.proofs.bodies.find.Goals as goal

pub loop-i-init : goal.loop-i-init
loop-i-init c = record {
  stamped = c.in_ok-begin.ensures.stamped;
  so_far = body_start c.args.exits.now c.args.entry c.requires.exits c.number_at.result _ c.number_at.ensures c.in_ok-begin.ensures.one;
  as_many = c.begin.ensures.as_many ∙ c.requires.as_many;
}

pub add_targets-requires-clause-within : goal.add_targets-requires-clause-within
add_targets-requires-clause-within c =
    let order = c.loop-i.found.order.items in
    let lt : c.loop-i.i < length order = omega arith in
    let known : get_or order c.loop-i.i 0 < length c.loop-i.found.stamps.items = c.loop-i.invariant.stamped.known _ (Contains-get_or order c.loop-i.i 0 lt) in
    let item : c.index-from.result.now ≡ get_or order c.loop-i.i 0 =
    c.index-from.ensures ∙ get_or_default order c.loop-i.i c.index-from.result.now 0 lt in
    let all : length c.loop-i.found.stamps.items ≡ length c.args.exits.now.blocks.now = c.loop-i.invariant.as_many in
    omega arith

pub loop-i-preserved : goal.loop-i-preserved
loop-i-preserved c =
    let order = c.loop-i.found.order.items in
    let lt : c.loop-i.i < length order = omega arith in
    let item : c.index-from.result.now ≡ get_or order c.loop-i.i 0 =
    c.index-from.ensures ∙ get_or_default order c.loop-i.i c.index-from.result.now 0 lt in
    record {
      stamped = c.in_ok-add_targets.ensures.stamped;
      so_far = body_more c.args.exits.now c.args.entry c.requires.exits order _ c.loop-i.i c.index-from.result.now lt item
          c.loop-i.invariant.so_far c.in_ok-add_targets.ensures.adds;
      as_many = c.in_ok-add_targets.ensures.as_many;
    }

pub returns-clause-exact : goal.returns-clause-exact
returns-clause-exact c =
    let past : length c.loop-i.found.order.items ≤ c.loop-i.i = omega arith in
    body_at_end c.args.exits.now c.args.entry c.requires.exits _ c.loop-i.i past c.loop-i.invariant.so_far
