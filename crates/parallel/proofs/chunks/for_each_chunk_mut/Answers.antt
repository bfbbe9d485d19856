use Rattle.std.proofs.Common.{rules, ◌+◌, ◌*◌, refl, sym, subst, arith}
use Rattle.std.specs.Fork.{slice_chunk, IsChunk, ChangesAt, ChangesChunks}
use Rattle.parallel.proofs.FirstChunk.{is_chunk, in_chunk}
use Rattle.parallel.proofs.chunks.for_each_chunk_mut.Goals as goal

pub chunks_from-requires-after_bounds : goal.chunks_from-requires-after_bounds
chunks_from-requires-after_bounds g c κs within =
    let xs = c.args.s.now in
    let size = c.args.size in
    record {
      filled = search rules;
      sized = c.requires.size;
      room = search rules;
      each = λ n inside p is. subst (λ i. g.F.Fn.pre c.args.f.now (i, (p, tt))) {x = n * size} (omega arith)
          (c.requires.accepts (n * size) p (subst (IsChunk xs size (n * size)) (sym is) (is_chunk xs size n c.requires.size inside)));
    }

pub returns-then-not-is_empty-clause-by_index : goal.returns-then-not-is_empty-clause-by_index
returns-then-not-is_empty-clause-by_index g c i d inside =
    let xs = c.args.s.now in
    let ys = c.chunks_from.new.s in
    let size = c.args.size in
    let changes : ChangesChunks g.F.Fn c.args.f.now size xs ys =
    λ n within. subst (λ i. ChangesAt g.F.Fn c.args.f.now i (slice_chunk xs size n) (slice_chunk ys size n)) {x = 0 + n * size} (omega arith) (c.chunks_from.ensures.each n within) in
    (refl, in_chunk _ _ size xs ys c.requires.size changes i d inside)
