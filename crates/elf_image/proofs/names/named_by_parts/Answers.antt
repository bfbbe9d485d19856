use Rattle.std.proofs.Common.{◌∙◌, ap, eqb, rules, tests}
use Rattle.std.specs.Slice.Iter.{split_rest, split_done, split_callee}
use Rattle.std.proofs.lemmas.Iterator.Consumers.{YieldsList-end}
use Rattle.std.proofs.lemmas.Iterator.Splits.{YieldsList-from_slice_split}
use Rattle.elf_image.specs.Architecture.{all_named}
use Rattle.elf_image.proofs.Join.{later-more, later-all}
use Rattle.elf_image.proofs.names.named_by_parts.Goals as goal

pub loop-part-preserved : goal.loop-part-preserved
loop-part-preserved c =
    later-more c.loop-part.yielded c.in-Some.part c.loop-part.found c.named_by_part.result c.join-found.result c.loop-part.invariant c.named_by_part.ensures c.join-found.ensures

pub returns : goal.returns
returns c =
    let same = c.into_iter-part-iterator.ensures.into_iter_gives in
    let end = YieldsList-end (YieldsList-from_slice_split {s = c.into_iter-part-iterator.result} _ (λ b. eqb b 0x5F) c.args.text.now (ap split_rest same ∙ c.split-part-items.ensures.rest) (ap split_done same ∙ c.split-part-items.ensures.done) (ap split_callee same ∙ c.split-part-items.ensures.closure) (λ x r q k. search (rules, tests))) c.loop-part.yielded _ c.loop-part.yielded_by _ _ c.in-None.is c.next.ensures.steps in
    c.loop-part.invariant ∙ ap all_named (later-all c.loop-part.yielded c.args.text.now end.0)
