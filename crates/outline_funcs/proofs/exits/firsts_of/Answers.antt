use Rattle.std.proofs.Common.{◌≡◌, ◌<◌, length, get_or, refl, ◌∙◌, arith}
use Rattle.std.proofs.lemmas.List.{length_push}
use Rattle.outline_funcs.specs.Inner.Exits.{IsFirst}
use Rattle.outline_funcs.proofs.EachPlace.{each_pushed}
use Rattle.outline_funcs.proofs.Numbers.{none, number_at, later_start}
use Rattle.outline_funcs.proofs.Sides.{first_at, first_behind}
use Rattle.outline_funcs.proofs.exits.firsts_of.Goals as goal

pub loop-block-preserved : goal.loop-block-preserved
loop-block-preserved c =
    let blocks = c.args.blocks.now in
    let edges = c.args.edges.now in
    let i = c.loop-block.block-index in
    let first = c.first_from-first.result in
    let from = c.first_from-first.ensures in
    let is : IsFirst blocks edges i first =
    first_at blocks edges i first _ c.requires.blocks c.requires.edges (number_at blocks i _ c.loop-block-test.true) from.within from.before from.there in
    record {
      as_many = rw c.in_ok-push.ensures.items (omega (arith, length_push c.loop-block.firsts.items first, c.loop-block.invariant.as_many));
      within = from.within;
      before = λ k j d e below past within.
          let low : (get_or edges k d).from < (get_or blocks i none).start = from.before k d below in
          let rise : (get_or blocks i none).start < (get_or blocks j e).start = later_start blocks i j none e c.requires.blocks (omega arith) within in
          omega arith;
      each = each_pushed (IsFirst blocks edges) c.loop-block.firsts.items _ first i
          c.loop-block.invariant.as_many c.in_ok-push.ensures.items c.loop-block.invariant.each is;
    }

pub returns : goal.returns
returns c =
    let blocks = c.args.blocks.now in
    let edges = c.args.edges.now in
    let firsts = c.loop-block.firsts.items in
    let last : c.loop-block.block-index ≡ length blocks = omega arith in
    rw c.in_ok-push-2.ensures.items (record {
      as_many = omega (arith, length_push firsts (length edges), c.loop-block.invariant.as_many, last);
      each = λ i d lt.
          each_pushed (IsFirst blocks edges) firsts _ (length edges) (length blocks) (c.loop-block.invariant.as_many ∙ last) refl
          (λ j e below. c.loop-block.invariant.each j e (omega arith)) (first_behind blocks edges)
          i d (omega (arith, lt, length_push firsts (length edges), c.loop-block.invariant.as_many, last));
    })
