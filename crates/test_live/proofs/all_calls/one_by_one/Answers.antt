use Rattle.std.proofs.Common.{sym, List, subst}
use Rattle.std.specs.Prelude.{Contains}
use Rattle.cfg_model.specs.declared.graph.Function.{Function}
use Rattle.test_live.proofs.all_calls.one_by_one.Goals as goal

pub lives-requires-after_bounds : goal.lives-requires-after_bounds
lives-requires-after_bounds c κs =
    let listed : Contains c.as_slice-function-items.result.now c.function-item.result = (c.loop-function.function-index, c.loop-function-test.true, sym c.function-item.is) in
    (c.requires.0, c.requires.1, c.requires.2 c.function-item.result (subst (λ (fs : List Function). Contains fs c.function-item.result) c.as_slice-function-items.ensures listed))
