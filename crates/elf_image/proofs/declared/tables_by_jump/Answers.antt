use Rattle.std.proofs.Common.{◌∙◌, ap, rules}
use Rattle.std.specs.List.{find}
use Rattle.std.proofs.lemmas.List.Sorted.{IsNonDecreasingBy-from_sort_by_key, answers_always}
use Rattle.elf_image.specs.declared.declared.DeclaredTable.{DeclaredTable}
use Rattle.elf_image.proofs.ByJump.{jumps_at, find-stable}
use Rattle.elf_image.proofs.declared.tables_by_jump.Goals as goal

pub returns : goal.returns
returns c = record {
  rises = IsNonDecreasingBy-from_sort_by_key (λ (t : DeclaredTable). t.jump) _ c.in_ok-sort_by_key.ensures.sorted (λ a r q k. search rules);
  same = λ j. find-stable _ _ (c.sort_by_key.ensures.stable (λ t. t.jump) (answers_always _ _ _ (λ f a r g h. search rules))) j ∙ ap (find (jumps_at j)) c.in_ok-tables.ensures;
}
