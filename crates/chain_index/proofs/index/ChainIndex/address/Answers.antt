use Rattle.std.proofs.Common.{◌≡◌, ap, ◌∙◌, arith}
use Rattle.chain_index.specs.Numbers.{code_count}
use Rattle.chain_index.proofs.ByNumber.{address_there}
use Rattle.chain_index.proofs.Ends.{code_below}
use Rattle.chain_index.proofs.index.ChainIndex.address.Goals as goal

pub overflow_sub-place : goal.overflow_sub-place
overflow_sub-place c =
    let count : c.self.inside.numbers ≡ code_count c.args.self.now = c.self.invariant.1 ∙ ap code_count c.self.view_is in
    let there = c.section_of-s.ensures c.requires.0 c.requires.1 c.requires.2 in
    omega (
      arith,
      (address_there c.args.self.now c.requires.0 c.args.n c.self.inside.numbers c.section_of-s.result.now count c.requires.1 c.requires.2 there.first there.at).0,
      c.from.ensures,
      c.from-2.ensures,
      c.from-3.ensures,
    )

pub overflow_add-result : goal.overflow_add-result
overflow_add-result c =
    let count : c.self.inside.numbers ≡ code_count c.args.self.now = c.self.invariant.1 ∙ ap code_count c.self.view_is in
    let there = c.section_of-s.ensures c.requires.0 c.requires.1 c.requires.2 in
    omega (
      arith,
      (address_there c.args.self.now c.requires.0 c.args.n c.self.inside.numbers c.section_of-s.result.now count c.requires.1 c.requires.2 there.first there.at).1,
      code_below c.args.self.now there.at.image c.requires.0 c.requires.1,
      c.from.ensures,
      c.from-2.ensures,
      c.from-3.ensures,
    )

pub returns : goal.returns
returns c = λ a code is.
    let count : c.self.inside.numbers ≡ code_count c.args.self.now = c.self.invariant.1 ∙ ap code_count c.self.view_is in
    let there = c.section_of-s.ensures a code is in
    omega (
      arith,
      (address_there c.args.self.now a c.args.n c.self.inside.numbers c.section_of-s.result.now count code is there.first there.at).1,
      c.from.ensures,
      c.from-2.ensures,
      c.from-3.ensures,
    )
