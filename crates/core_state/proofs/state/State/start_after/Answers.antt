use Rattle.std.proofs.Common.{ap}
use Rattle.core_state.specs.Counted.{CountedState}
use Rattle.core_state.proofs.KeysJoined.{keys_joined, own_keys}
use Rattle.core_state.proofs.state.State.start_after.Goals as goal

pub key_after-requires-clause-own : goal.key_after-requires-clause-own
key_after-requires-clause-own c = rw c.as_slice.ensures.value (own_keys _ c.self.invariant.0)

pub returns : goal.returns
returns c =
    let least = rw c.as_slice.ensures.value at c.key_after.ensures in
    keys_joined _ c.self.invariant.0 _ (ap (λ (s : CountedState). s.maps.starts) c.self.view_is) c.args.a _ least
