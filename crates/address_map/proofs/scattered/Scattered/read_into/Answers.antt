use Rattle.std.proofs.Common.{subst, sym}
use Rattle.std.specs.Cmp.{nat_cmp_total}
use Rattle.std.specs.Map.Iter.{deref_pair}
use Rattle.std.proofs.lemmas.Map.Iter.{btree_map_turn, rest_more, rest_all}
use Rattle.address_map.specs.Read.{IsRead}
use Rattle.address_map.proofs.Among.{IsFoundAhead, all_over, over_parts, over_none, found_in_chunk}
use Rattle.address_map.proofs.Gathered.{reads_as, none_gathered, more_gathered, all_gathered}
use Rattle.address_map.proofs.scattered.Scattered.read_into.Goals as goal

pub loop-chunk-init : goal.loop-chunk-init
loop-chunk-init g c =
    none_gathered _ _ _
    (λ it found. subst (λ rest. IsFoundAhead (reads_as (g.G.Reading.item c.args.reading.now)) rest it) (sym c.into_iter-chunk-iterator.ensures.into_iter_gives.0)
    (all_over (reads_as (g.G.Reading.item c.args.reading.now)) c.self.inside.chunks.entries c.args.self.now c.self.view_is it found))

pub loop-chunk-preserved : goal.loop-chunk-preserved
loop-chunk-preserved g c =
    let read = g.G.Reading.item c.args.reading.now in
    let turn = btree_map_turn deref_pair c.loop-chunk.yielded c.into_iter-chunk-iterator.result c.loop-chunk.chunk-iterator c.next.new.self c.next.result (c.in-Some.field-0-0, c.in-Some.chunk)
    c.loop-chunk.yielded_by c.in-Some.is c.next.ensures.steps nat_cmp_total c.self.inside.chunks c.into_iter-chunk-iterator.ensures.into_iter_gives.0 c.self.invariant.0 in
    more_gathered _ _ _ _ (IsRead read c.in-Some.chunk.now) _ _ c.loop-chunk.invariant c.in_ok-read_into.ensures
    (found_in_chunk (reads_as read) c.self.inside.chunks.entries c.args.self.now c.self.view_is c.self.invariant.0 c.self.invariant.1 c.in-Some.field-0-0.now c.in-Some.chunk.now turn.1)
    (λ it ahead. over_parts (reads_as read) c.in-Some.chunk.now c.in-Some.field-0-0.now c.next.new.self it
    (subst (λ rest. IsFoundAhead (reads_as read) rest it) (rest_more deref_pair c.loop-chunk.chunk-iterator c.next.new.self c.next.result (c.in-Some.field-0-0, c.in-Some.chunk) c.in-Some.is c.next.ensures.steps) ahead))

pub returns : goal.returns
returns g c =
    all_gathered _ _ _ _ c.loop-chunk.invariant
    (λ it found. over_none (reads_as (g.G.Reading.item c.args.reading.now)) it
    (subst (λ rest. IsFoundAhead (reads_as (g.G.Reading.item c.args.reading.now)) rest it) (rest_all deref_pair c.loop-chunk.chunk-iterator c.next.new.self c.next.result c.in-None.is c.next.ensures.steps) found))
