use Rattle.std.proofs.Common.{sym, subst, ◌∙◌, ◌<◌}
use Rattle.std.specs.Prelude.{Some, IsSome}
use Rattle.std.specs.Ordering.{nat_cmp}
use Rattle.std.specs.FinMap as maps
use Rattle.address_map.proofs.KeysAfter.{IsAt, IsNextChunk, found_here, walk_on, found_first, walk_next, walk_end, fewer_left, is_beyond, numbers_left}
use Rattle.address_map.proofs.PartsJoined.{none_there}
use Rattle.address_map.proofs.scattered.Scattered.after.Goals as goal

pub returns-then-is_empty : goal.returns-then-is_empty
returns-then-is_empty g c = λ x h.
    none_there _ x (subst (λ (m : maps.FinMap nat_cmp g.row.T.Denot). IsSome (maps.get m x)) (c.is_empty.ensures c.if-is_empty.true) h.0)

pub returns-then-is_some : goal.returns-then-is_some
returns-then-is_some g c =
    found_here c.args.self.now c.args.a c.after_in_chunk-here.result c.after_in_chunk-here.ensures (sym c.is_some.ensures ∙ c.if-is_some.true)

pub chunks-init : goal.chunks-init
chunks-init g c =
    walk_on c.self.inside.chunks.entries c.args.self.now c.self.view_is c.self.invariant.0 c.self.invariant.1 c.args.a c.after_in_chunk-here.result c.least_above-next.result c.after_in_chunk-here.ensures (sym c.is_some.ensures ∙ c.if-is_some.false)
    (subst (λ o. IsNextChunk c.self.inside.chunks.entries c.args.self.now c.self.view_is c.self.invariant.0 c.self.invariant.1 o c.least_above-next.result) c.chunk_before.ensures c.least_above-next.ensures)

pub returns-then-is_some-2 : goal.returns-then-is_some-2
returns-then-is_some-2 g c =
    found_first c.args.self.now c.args.a c.in-Some.number (subst (IsAt c.args.self.now c.args.a) c.in-Some.is c.chunks.invariant) c.first_of-first.result c.first_of-first.ensures.least (sym c.is_some-in-Some.ensures ∙ c.if-is_some-2.true)

pub chunks-preserved : goal.chunks-preserved
chunks-preserved g c =
    walk_next c.self.inside.chunks.entries c.args.self.now c.self.view_is c.self.invariant.0 c.self.invariant.1 c.args.a c.in-Some.number (subst (IsAt c.args.self.now c.args.a) c.in-Some.is c.chunks.invariant) c.first_of-first.result c.first_of-first.ensures.least (sym c.is_some-in-Some.ensures ∙ c.if-is_some-2.false)
    c.least_above-next-in-Some.result c.least_above-next-in-Some.ensures

pub chunks-smaller : goal.chunks-smaller
chunks-smaller g c =
    subst (λ o. numbers_left c.least_above-next-in-Some.result < numbers_left o) (sym c.in-Some.is)
    (fewer_left c.in-Some.number c.least_above-next-in-Some.result c.first_of-first.ensures.small (is_beyond c.self.inside.chunks.entries c.args.self.now c.self.view_is c.self.invariant.0 c.self.invariant.1 (Some c.in-Some.number) c.least_above-next-in-Some.result c.least_above-next-in-Some.ensures))

pub returns : goal.returns
returns g c = walk_end c.self.inside.chunks.entries c.args.self.now c.self.view_is c.self.invariant.0 c.self.invariant.1 c.args.a (subst (IsAt c.args.self.now c.args.a) c.in_default.is c.chunks.invariant)
