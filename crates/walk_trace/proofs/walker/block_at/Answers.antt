use Rattle.std.proofs.Common.{sym, rules}
use Rattle.std.proofs.lemmas.Cmp.{ranked}
use Rattle.std.proofs.lemmas.List.Sorted.{answers_always}
use Rattle.cfg_model.specs.declared.graph.Block.{Block}
use Rattle.edge_cover.proofs.Found.{nothing}
use Rattle.walk_trace.proofs.Found.{found_block, found_none}
use Rattle.walk_trace.proofs.walker.block_at.Goals as goal

pub returns-in-Ok : goal.returns-in-Ok
returns-in-Ok c =
    let by_start = c.in-Ok.ensures.position (λ (b : Block). b.start) (answers_always _ _ _ (λ b a r g called. search rules)) in
    found_block c.args.blocks.now c.requires c.args.a c.in-Ok.i nothing c.in-Ok.ensures.bound (ranked _ c.args.a _ (sym (by_start nothing)))

pub returns-in-Err : goal.returns-in-Err
returns-in-Err c =
    let by_start = c.in-Err.ensures.position (λ (b : Block). b.start) (answers_always _ _ _ (λ b a r g called. search rules)) in
    found_none c.args.blocks.now c.requires c.args.a c.in-Err.field-0 by_start
