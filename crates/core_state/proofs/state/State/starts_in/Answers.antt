use Rattle.std.proofs.Common.{ap}
use Rattle.std.specs.Prelude.{IsSome}
use Rattle.std.proofs.lemmas.Result.{IfOk-weaker}
use Rattle.core_state.specs.Counted.{CountedState}
use Rattle.core_state.proofs.ShardRead.{through, in_shard}
use Rattle.core_state.proofs.state.State.starts_in.Goals as goal

pub returns : goal.returns
returns c =
    IfOk-weaker c.all.result _ _
    (λ v reads s. through (reads s)
    (in_shard _ c.self.invariant.0 _ (ap (λ (s : CountedState). s.maps.starts) c.self.view_is) c.args.number c.requires _ c.index.ensures (λ o. IsSome o) (λ o has. has) s))
    c.all.ensures
