use Rattle.std.proofs.Common.{ℕ, List, sym, subst}
use Rattle.std.specs.Prelude.{Contains}
use Rattle.std.proofs.lemmas.List.{take_all}
use Rattle.core_state.proofs.left.unstarted.Goals as goal

pub returns-clause-none : goal.returns-clause-none
returns-clause-none c s there =
    c.loop-seed.invariant s (subst (λ (xs : List ℕ). Contains xs s) (sym (take_all c.loop-seed.seed-index c.args.seeds.now c.loop-seed-test.false)) there)
