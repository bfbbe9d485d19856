use Rattle.std.proofs.Common.{◌≡◌, List, length, true, sym, ap, subst, arith}
use Rattle.elf_image.specs.Code.{is_code}
use Rattle.chain_index.specs.declared.lookup.SectionReaches.{SectionReaches}
use Rattle.chain_index.specs.Inner.{IsCountAbove, IsReachedAt}
use Rattle.chain_index.proofs.Looking.{look_within, look}
use Rattle.chain_index.proofs.index.ChainIndex.section_before.Goals as goal
use Rattle.chain_index.proofs.index.ChainIndex.section_before.Goals.{After-count_above}

-- the search is in the sections that are kept, for a code address of their file
counted : (c : After-count_above) → IsCountAbove c.self.inside.sections.items c.args.a c.count_above.result
counted c = subst (λ found. IsCountAbove found c.args.a c.count_above.result) c.deref.ensures.value c.count_above.ensures

code : (c : After-count_above) → is_code c.self.inside.image.now c.args.a ≡ true
code c = subst (λ file. is_code file c.args.a ≡ true) (sym c.self.view_is) c.requires

pub index-requires : goal.index-requires
index-requires c =
    omega (
      arith,
      look_within c.self.inside.image.now c.self.inside.sections.items c.self.invariant.0 c.args.a (code c) c.count_above.result (counted c),
      c.deref.ensures.len,
      ap (λ (found : List SectionReaches). length found) c.deref.ensures.value,
    )

pub returns : goal.returns
returns c =
    let at = (goal.at.returns c).After-count_above in
    subst (λ file. IsReachedAt file c.args.a c.index.result.now) c.self.view_is
    (subst (IsReachedAt c.self.inside.image.now c.args.a) (sym c.index.ensures)
    (look c.self.inside.image.now c.self.inside.sections.items c.self.invariant.0 c.args.a (code at) c.count_above.result (counted at) c.index.result.now))
