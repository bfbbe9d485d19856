use Rattle.std.proofs.Common.{subst, sym}
use Rattle.std.specs.Cmp.{nat_cmp_total}
use Rattle.std.specs.Map.Iter.{deref_pair}
use Rattle.std.proofs.lemmas.Map.Iter.{btree_map_turn, rest_more, rest_all}
use Rattle.address_map.proofs.Among.{IsFoundAhead, all_over, over_less, over_none, found_in_chunk}
use Rattle.address_map.proofs.scattered.Scattered.find_by.Goals as goal

pub loop-chunk-init : goal.loop-chunk-init
loop-chunk-init g c = λ thing found.
    subst (λ rest. IsFoundAhead (g.L.Look.finds c.args.look.now) rest thing) (sym c.into_iter-chunk-iterator.ensures.into_iter_gives.0)
    (all_over (g.L.Look.finds c.args.look.now) c.self.inside.chunks.entries c.args.self.now c.self.view_is thing found)

pub returns-in-Some-find_by-clause-some : goal.returns-in-Some-find_by-clause-some
returns-in-Some-find_by-clause-some g c =
    let turn = btree_map_turn deref_pair c.loop-chunk.yielded c.into_iter-chunk-iterator.result c.loop-chunk.chunk-iterator c.next.new.self c.next.result (c.in-Some.field-0-0, c.in-Some.chunk)
    c.loop-chunk.yielded_by c.in-Some.is c.next.ensures.steps nat_cmp_total c.self.inside.chunks c.into_iter-chunk-iterator.ensures.into_iter_gives.0 c.self.invariant.0 in
    found_in_chunk (g.L.Look.finds c.args.look.now) c.self.inside.chunks.entries c.args.self.now c.self.view_is c.self.invariant.0 c.self.invariant.1 c.in-Some.field-0-0.now c.in-Some.chunk.now turn.1
    c.in-Some-find_by.found c.in-Some-find_by.ensures.some

pub loop-chunk-preserved : goal.loop-chunk-preserved
loop-chunk-preserved g c = λ thing found.
    over_less (g.L.Look.finds c.args.look.now) c.in-Some.chunk.now c.in-Some.field-0-0.now c.next.new.self c.in_default.ensures.none thing
    (subst (λ rest. IsFoundAhead (g.L.Look.finds c.args.look.now) rest thing) (rest_more deref_pair c.loop-chunk.chunk-iterator c.next.new.self c.next.result (c.in-Some.field-0-0, c.in-Some.chunk) c.in-Some.is c.next.ensures.steps) (c.loop-chunk.invariant thing found))

pub returns-clause-none : goal.returns-clause-none
returns-clause-none g c = λ thing found.
    over_none (g.L.Look.finds c.args.look.now) thing
    (subst (λ rest. IsFoundAhead (g.L.Look.finds c.args.look.now) rest thing) (rest_all deref_pair c.loop-chunk.chunk-iterator c.next.new.self c.next.result c.in-None.is c.next.ensures.steps) (c.loop-chunk.invariant thing found))
