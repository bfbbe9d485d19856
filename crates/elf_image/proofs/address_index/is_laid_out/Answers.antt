use Rattle.std.proofs.Common.{◌≡◌, ◌+◌, Bool, true, false, List, leb, MatchBool, sym, rules}
use Rattle.std.specs.List.{IsAllAdjacentAnswer}
use Rattle.std.proofs.lemmas.Bool.{leb-true, leb-false}
use Rattle.std.proofs.lemmas.List.Sorted.{answers_always}
use Rattle.elf_image.specs.declared.section.Section.{Section}
use Rattle.elf_image.specs.Inner.AddressIndex.{IsLaidOut, HasOverhang}
use Rattle.elf_image.proofs.address_index.is_laid_out.Goals as goal

-- the test of a pair
fits : Section → Section → Bool
fits s t = leb (s.address + s.size) t.address

told : (b : Bool) (xs : List Section) → IsAllAdjacentAnswer (λ x y r. r ≡ fits x y) xs b → MatchBool b (IsLaidOut xs) (HasOverhang xs)
unfolding fits
told true xs h = λ k d below. leb-true _ _ (sym (h k d below))
told false xs h = (h.0, h.1, λ d. leb-false _ _ (sym (h.2 d)))

pub returns : goal.returns
unfolding fits
returns c =
    told _ c.args.sections.now (c.is_sorted_by.ensures.cases fits (answers_always _ _ _ (λ f a r g h. search rules)))
