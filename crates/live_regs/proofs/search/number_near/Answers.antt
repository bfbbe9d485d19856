use Rattle.std.proofs.Common.{rules, Ok, Err}
use Rattle.std.proofs.lemmas.List.Sorted.{answers_always}
use Rattle.cfg_model.specs.declared.graph.Block.{Block}
use Rattle.live_regs.proofs.Keyed.{searched}
use Rattle.live_regs.proofs.search.number_near.Goals as goal

pub returns-in-Ok-clause-some : goal.returns-in-Ok-clause-some
returns-in-Ok-clause-some c =
    let by_start = c.in-Ok.ensures.position (λ (b : Block). b.start) (answers_always _ _ _ (λ b a r g called. search rules)) in
    let at = searched (λ (b : Block). b.start) c.args.blocks.now c.requires c.args.a (Ok c.in-Ok.number) c.in-Ok.ensures.bound by_start in
    record { within = at.0; starts = at.1 }

pub returns-in-Err-clause-none : goal.returns-in-Err-clause-none
returns-in-Err-clause-none c = λ has.
    let by_start = c.in-Err.ensures.position (λ (b : Block). b.start) (answers_always _ _ _ (λ b a r g called. search rules)) in
    let none = searched (λ (b : Block). b.start) c.args.blocks.now c.requires c.args.a (Err c.in-Err.field-0) c.in-Err.ensures.bound by_start in
    none has.0 has.1 has.2
