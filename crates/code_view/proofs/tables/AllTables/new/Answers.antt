use Rattle.std.proofs.Common.{rules}
use Rattle.std.proofs.lemmas.List.Sorted.{IsNonDecreasingBy-from_sort_by_key}
use Rattle.code_view.specs.declared.table_jump.TableJump.{TableJump}
use Rattle.code_view.proofs.Sought.{all-moved}
use Rattle.code_view.proofs.tables.AllTables.new.Goals as goal

pub invariant_of-result : goal.invariant_of-result
invariant_of-result c = IsNonDecreasingBy-from_sort_by_key (λ (f : TableJump). f.jump) _ c.sort_unstable_by_key.ensures.sorted (λ a r q k. search rules)

pub returns : goal.returns
returns c = λ bytes all. all-moved bytes c.args.jumps.items c.sort_unstable_by_key.new.self.items c.sort_unstable_by_key.ensures.permutation all
