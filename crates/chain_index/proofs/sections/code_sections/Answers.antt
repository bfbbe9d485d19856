use Rattle.std.proofs.Common.{◌≤◌, ◌∙◌, List, rules}
use Rattle.std.specs.Prelude.{All}
use Rattle.std.proofs.lemmas.List.Sorted.{IsNonDecreasingBy-from_sort_by_key, All-permutation}
use Rattle.elf_image.specs.declared.section.Section.{Section}
use Rattle.elf_image.proofs.LaidOut.{pairs-sorted}
use Rattle.chain_index.proofs.Apart.{rise}
use Rattle.chain_index.proofs.sections.code_sections.Goals as goal

pub returns-clause-rising : goal.returns-clause-rising
returns-clause-rising c =
    let xs : List Section = c.in_ok-sections.sections.items in
    let ys : List Section = c.sort_unstable_by_key.new.self.items in
    let moved = c.sort_unstable_by_key.ensures.permutation in
    let sorted = IsNonDecreasingBy-from_sort_by_key (λ (s : Section). s.address) _ c.sort_unstable_by_key.ensures.sorted (λ a r q k. search rules) in
    let some : All (λ (s : Section). 2 ≤ s.size) xs = λ k d below. (c.in_ok-sections.ensures.code k d below).some in
    rise ys sorted (All-permutation (λ (s : Section). 2 ≤ s.size) xs ys moved some) (pairs-sorted xs ys moved ∙ c.in_ok-sections.ensures.apart)
