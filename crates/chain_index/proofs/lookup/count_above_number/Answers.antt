use Rattle.std.proofs.Common.{◌+◌, ltb, rules, arith}
use Rattle.std.proofs.lemmas.Bool.{ltb-true, ltb-false}
use Rattle.std.proofs.lemmas.List.Sorted.{IsPartitionPoint-from_clause}
use Rattle.chain_index.specs.declared.lookup.SectionReaches.{SectionReaches}
use Rattle.chain_index.proofs.ByNumber.{parted_by_number, first_above, first_below}
use Rattle.chain_index.proofs.lookup.count_above_number.Goals as goal

pub returns : goal.returns
returns c = λ bytes a all count code is.
    let found = c.args.sections.now in
    let numbers = c.args.numbers in
    let n = c.args.n in
    let parts = IsPartitionPoint-from_clause (λ (r : SectionReaches). ltb (n + r.from) numbers) _ _ c.partition_point.ensures.partitioned (parted_by_number bytes found numbers n all) (λ a r q k. search rules) in
    record {
      bound = c.partition_point.ensures.bound;
      above = λ i d below. first_above bytes found numbers n a all count code is i d (omega (arith, c.partition_point.ensures.bound, below)) (ltb-true _ _ (parts.0 i d (omega (arith, c.partition_point.ensures.bound, below)) below));
      others = λ i d from below. first_below bytes found numbers n a all count code is i d below (ltb-false _ _ (parts.1 i d from below));
    }
