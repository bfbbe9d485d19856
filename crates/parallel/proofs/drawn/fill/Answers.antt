use Rattle.std.proofs.Common.{length, ◌∙◌}
use Rattle.parallel.specs.Inner.Drawn.{IsResultBelow}
use Rattle.parallel.proofs.Placed.{first_of, rest_made}
use Rattle.parallel.proofs.drawn.fill.Goals as goal

pub put-requires-clause-made : goal.put-requires-clause-made
put-requires-clause-made g c =
    first_of (IsResultBelow g.F.Fn c.args.f.now (length c.loop-i.places)) (c.in-Some.i, c.in-Some.value) c.next.new.self.rest.items c.loop-i.i-iterator.rest.items
    c.in-Some.ensures.steps.0 c.loop-i.invariant.left

pub loop-i-preserved : goal.loop-i-preserved
loop-i-preserved g c = record {
  len = c.put.ensures.len ∙ c.loop-i.invariant.len;
  placed = c.put.ensures.placed;
  left = rest_made g.F.Fn c.args.f.now c.loop-i.places c.put.new.places (c.in-Some.i, c.in-Some.value) c.next.new.self.rest.items c.loop-i.i-iterator.rest.items
      c.in-Some.ensures.steps.0 c.put.ensures.len c.loop-i.invariant.left;
}
