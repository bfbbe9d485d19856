use Rattle.std.proofs.Common.{ℕ, List, ltb, rules, arith}
use Rattle.std.specs.List.Sorted.{IsPartitionedBy}
use Rattle.std.proofs.lemmas.Bool.{ltb-true, ltb-false, lt-ltb}
use Rattle.std.proofs.lemmas.List.Sorted.{IsPartitionPoint-from_clause}
use Rattle.chain_index.specs.declared.lookup.SectionReaches.{SectionReaches}
use Rattle.chain_index.specs.Found.{AreFalling}
use Rattle.chain_index.proofs.lookup.count_above.Goals as goal

-- the sections that begin above come first
parted : (found : List SectionReaches) (a : ℕ) → AreFalling found → IsPartitionedBy (λ (r : SectionReaches). ltb a r.address) found
parted found a falling i j d up below above = lt-ltb _ _ (omega (arith, falling i j d up below, ltb-true _ _ above))

pub returns : goal.returns
returns c =
    let parts = IsPartitionPoint-from_clause (λ (r : SectionReaches). ltb c.args.a r.address) _ _ c.partition_point.ensures.partitioned (parted c.args.sections.now c.args.a c.requires) (λ a r q k. search rules) in
    record {
      bound = c.partition_point.ensures.bound;
      above = λ i d below. ltb-true _ _ (parts.0 i d (omega arith) below);
      others = λ i d from below. ltb-false _ _ (parts.1 i d from below);
    }
