use Rattle.std.proofs.Common.{◌≡◌, ◌+◌, ◌*◌, true, sym, subst, arith}
use Rattle.elf_image.specs.Code.{is_code}
use Rattle.chain_index.specs.Chain.{IsChainEnd}
use Rattle.chain_index.proofs.Ends.{end_code, code_below}
use Rattle.chain_index.proofs.index.ChainIndex.term.Goals as goal

-- the answer is the end of the chain
end : (c : goal.After-from) → IsChainEnd c.args.self.now c.args.a (c.args.a + 2 * c.from.result)
end c =
    subst (λ d. IsChainEnd c.args.self.now c.args.a (c.args.a + 2 * d)) (sym c.from.ensures)
    (c.reach.ensures c.args.self.now c.section-s.ensures)

pub overflow_add-result : goal.overflow_add-result
overflow_add-result c =
    let bytes = c.args.self.now in
    let last : is_code bytes (c.args.a + 2 * c.from.result) ≡ true = end_code bytes c.args.a (c.args.a + 2 * c.from.result) (end c) c.requires in
    omega (arith, code_below bytes c.section-s.ensures.image (c.args.a + 2 * c.from.result) last)

pub returns : goal.returns
returns c = end c
