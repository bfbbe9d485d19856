use Rattle.std.proofs.Common.{refl}
use Rattle.std.proofs.lemmas.Option.{slice_get_read}
use Rattle.cfg_model.specs.declared.graph.Function.{Function}
use Rattle.cfg_model.proofs.Graphs.Lists.{zip_more, zip_all}
use Rattle.live_regs.specs.Masks.{AreLivesOf}
use Rattle.live_crew.proofs.by_one.lives_of.Goals as goal

pub loop-function-preserved : goal.loop-function-preserved
loop-function-preserved c =
    zip_more (λ (f : Function). AreLivesOf c.args.program.now.image.now c.args.program.now.blocks.now c.args.program.now.edges.now f.body) c.args.functions.now c.loop-function.function-index c.function-item.result _ _ _
    (slice_get_read c.args.functions.now _ c.loop-function.function-index c.function-item.result refl c.loop-function-test.true c.function-item.is) c.loop-function.invariant c.in_ok-push.ensures.items c.in_ok-lives_with.ensures

pub returns : goal.returns
returns c =
    zip_all (λ (f : Function). AreLivesOf c.args.program.now.image.now c.args.program.now.blocks.now c.args.program.now.edges.now f.body) c.args.functions.now _ _ c.loop-function-test.false c.loop-function.invariant
