use Rattle.std.proofs.Common.{◌≡◌, ℕ, List, length, true, sym, ap, ◌∙◌, subst, arith}
use Rattle.elf_image.specs.Code.{is_code}
use Rattle.chain_index.specs.declared.lookup.SectionReaches.{SectionReaches}
use Rattle.chain_index.specs.Found.{AreChainEndsOf}
use Rattle.chain_index.specs.Numbers.{codes_below}
use Rattle.chain_index.specs.Inner.{IsCountAbove, IsNumberedIn}
use Rattle.chain_index.proofs.Looking.{look_within}
use Rattle.chain_index.proofs.ByNumber.{kept_there}
use Rattle.chain_index.proofs.index.ChainIndex.section_by_number.Goals as goal
use Rattle.chain_index.proofs.index.ChainIndex.section_by_number.Goals.{After-count_above_number}

-- the search is in the sections that are kept
module _ (c : After-count_above_number) (a : ℕ) (code : is_code c.args.self.now a ≡ true) (is : c.args.n ≡ codes_below c.args.self.now a) where
  abbrev bytes : List ℕ
  bytes = c.self.inside.image.now

  abbrev found : List SectionReaches
  found = c.self.inside.sections.items

  code_here : is_code bytes a ≡ true
  code_here = subst (λ file. is_code file a ≡ true) (sym c.self.view_is) code

  is_here : c.args.n ≡ codes_below bytes a
  is_here = is ∙ ap (λ file. codes_below file a) (sym c.self.view_is)

  counted : IsCountAbove found a c.count_above_number.result
  counted = subst (λ xs. IsCountAbove xs a c.count_above_number.result) c.deref.ensures.value
      (c.count_above_number.ensures bytes a (subst (AreChainEndsOf bytes) (sym c.deref.ensures.value) c.self.invariant.0) c.self.invariant.1 code_here is_here)

pub index-requires : goal.index-requires
index-requires c =
    omega (
      arith,
      look_within c.self.inside.image.now c.self.inside.sections.items c.self.invariant.0 c.requires.0 (code_here c c.requires.0 c.requires.1 c.requires.2) c.count_above_number.result (counted c c.requires.0 c.requires.1 c.requires.2),
      c.deref.ensures.len,
      ap (λ (xs : List SectionReaches). length xs) c.deref.ensures.value,
    )

pub returns : goal.returns
returns c = λ a code is.
    let at = (goal.at.returns c).After-count_above_number in
    subst (λ file. IsNumberedIn file a c.index.result.now) c.self.view_is
    (kept_there c.self.inside.image.now c.self.inside.sections.items a c.self.invariant.0 (code_here at a code is) c.count_above_number.result (counted at a code is) c.index.result.now c.index.ensures)
