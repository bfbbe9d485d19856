use Rattle.std.proofs.Common.{◌≡◌, ◌+◌, ◌<◌, ◌^◌, Some, sym, ap, ◌∙◌, arith}
use Rattle.elf_image.specs.Code.{half_at}
use Rattle.chain_index.specs.Inner.{length_by}
use Rattle.chain_index.proofs.Lengths.{no_next, some_next, next_below}
use Rattle.chain_index.proofs.index.ChainIndex.next.Goals as goal
use Rattle.chain_index.proofs.index.ChainIndex.next.Goals.{After-straight_length}

pub returns-then-reach-eq0 : goal.returns-then-reach-eq0
returns-then-reach-eq0 c = no_next c.args.self.now c.args.a c.reach.result (c.reach.ensures c.args.self.now c.section-s.ensures) c.if-reach-eq0.true

-- the halfword that is read
half_there : (c : After-straight_length) → half_at c.args.self.now c.args.a ≡ Some c.half.result
half_there c = ap (λ file. half_at file c.args.a) (sym c.self.view_is) ∙ c.half.ensures

pub overflow_add-result : goal.overflow_add-result
overflow_add-result c =
    let end = c.reach.ensures c.args.self.now c.section-s.ensures in
    let below : c.args.a + length_by c.half.result < 2 ^ 64 =
    next_below c.args.self.now c.args.a c.reach.result end c.half.result (omega (arith, c.if-reach-eq0.false)) (half_there c) c.section-s.ensures.image in
    omega (arith, below, c.straight_length.ensures)

pub returns : goal.returns
returns c =
    let end = c.reach.ensures c.args.self.now c.section-s.ensures in
    ap (λ n. Some (c.args.a + n)) c.straight_length.ensures
    ∙ some_next c.args.self.now c.args.a c.reach.result end c.half.result (omega (arith, c.if-reach-eq0.false)) (half_there c)
