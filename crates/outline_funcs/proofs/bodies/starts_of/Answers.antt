use Rattle.std.proofs.Common.{get_or}
use Rattle.std.proofs.lemmas.Option.{slice_get-get_or}
use Rattle.outline_funcs.specs.Inner.Blocks.{IsNumber}
use Rattle.outline_funcs.proofs.Numbers.{number_at}
use Rattle.cfg_model.proofs.Graphs.Lists.{zip_more}
use Rattle.outline_funcs.proofs.bodies.starts_of.Goals as goal

pub loop-i-preserved : goal.loop-i-preserved
loop-i-preserved c =
    let numbers = c.args.numbers.now in
    let i = c.loop-i.i-index in
    zip_more (IsNumber c.args.blocks.now) numbers i (get_or numbers i 0) _ _ _
    (slice_get-get_or numbers i 0 c.loop-i-test.true) c.loop-i.invariant c.in_ok-push.ensures.items
    (number_at c.args.blocks.now (get_or numbers i 0) _ (c.requires i 0 c.loop-i-test.true))
