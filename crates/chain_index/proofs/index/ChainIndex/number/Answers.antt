use Rattle.std.proofs.Common.{◌≡◌, ◌<◌, ap, ◌∙◌, arith}
use Rattle.chain_index.specs.Numbers.{codes_below, code_count}
use Rattle.chain_index.proofs.Counts.{numbers_are_below}
use Rattle.chain_index.proofs.index.ChainIndex.number.Goals as goal

pub overflow_add-result : goal.overflow_add-result
overflow_add-result c =
    let count : c.self.inside.numbers ≡ code_count c.args.self.now = c.self.invariant.1 ∙ ap code_count c.self.view_is in
    let below : codes_below c.args.self.now c.args.a < code_count c.args.self.now = numbers_are_below c.args.self.now c.args.a c.section-s.ensures.image c.requires in
    omega (arith, count, below, c.section-s.ensures.counted, c.section-s.ensures.number)

pub returns-clause-below : goal.returns-clause-below
returns-clause-below c =
    let count : c.self.inside.numbers ≡ code_count c.args.self.now = c.self.invariant.1 ∙ ap code_count c.self.view_is in
    let below : codes_below c.args.self.now c.args.a < code_count c.args.self.now = numbers_are_below c.args.self.now c.args.a c.section-s.ensures.image c.requires in
    omega (arith, count, below, c.section-s.ensures.counted, c.section-s.ensures.number)
