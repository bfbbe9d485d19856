use Rattle.std.proofs.Common.{rules, refl}
use Rattle.std.specs.Fork.{AcceptsAt, ChangesAt}
use Rattle.parallel.proofs.FirstChunk.{only, first_of, rest_of, only_changed, both_changed}
use Rattle.parallel.proofs.chunks.+chunks.Goals as goal

pub chunks_from-f-requires : goal.chunks_from-f-requires
chunks_from-f-requires g t c =
    only (AcceptsAt g.F.Fn c.args.f.now) c.args.base c.args.size c.args.s.now (search rules) c.requires _ refl

pub chunks_from-returns-then-s-size : goal.chunks_from-returns-then-s-size
chunks_from-returns-then-s-size g t c =
    only_changed (ChangesAt g.F.Fn c.args.f.now) c.args.base c.args.size c.args.s.now c.f.new.arg3 (search rules) (search rules) (search rules)

pub chunks_from-first_and_rest-requires-clause-first : goal.chunks_from-first_and_rest-requires-clause-first
chunks_from-first_and_rest-requires-clause-first g t c κs within =
    let cut = c.split_at_mut-first.ensures in
    first_of (AcceptsAt g.F.Fn c.args.f.now) c.args.base c.args.size _ _ _ cut.value cut.front_len c.requires

pub chunks_from-first_and_rest-requires-clause-rest : goal.chunks_from-first_and_rest-requires-clause-rest
chunks_from-first_and_rest-requires-clause-rest g t c κs within =
    let cut = c.split_at_mut-first.ensures in
    rest_of (AcceptsAt g.F.Fn c.args.f.now) c.args.base c.args.size _ _ _ cut.value cut.front_len c.requires (search rules)

pub chunks_from-returns : goal.chunks_from-returns
chunks_from-returns g t c =
    let cut = c.split_at_mut-first.ensures in
    both_changed (ChangesAt g.F.Fn c.args.f.now) c.args.base c.args.size _ _ _ _ _ c.requires.sized cut.value cut.front_len
    c.first_and_rest.ensures.first c.first_and_rest.ensures.rest
