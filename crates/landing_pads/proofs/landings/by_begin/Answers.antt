use Rattle.std.proofs.Common.{◌∙◌, ap, rules}
use Rattle.std.specs.List.{find}
use Rattle.std.proofs.lemmas.List.Sorted.{IsNonDecreasingBy-from_sort_by_key, answers_always}
use Rattle.landing_pads.specs.declared.range.Range.{Range}
use Rattle.landing_pads.proofs.ByBegin.{begins_at, find-stable}
use Rattle.landing_pads.proofs.landings.by_begin.Goals as goal

pub returns : goal.returns
returns c = record {
  rises = IsNonDecreasingBy-from_sort_by_key (λ (r : Range). r.begin) _ c.in_ok-sort_by_key.ensures.sorted (λ a r q k. search rules);
  same = λ b. find-stable _ _ (c.sort_by_key.ensures.stable (λ r. r.begin) (answers_always _ _ _ (λ f a r g h. search rules))) b ∙ ap (find (begins_at b)) c.in_ok-found.ensures;
}
