use Rattle.std.proofs.Common.{◌<◌, get_or, length, arith}
use Rattle.outline_funcs.proofs.TailPlaces.{none_set, next_set}
use Rattle.outline_funcs.proofs.tail_sharing.set_tails.Goals as goal

pub loop-place-init : goal.loop-place-init
loop-place-init c = none_set c.args.edges.now

pub loop-place-preserved : goal.loop-place-preserved
loop-place-preserved c =
    let places = c.args.places.now in
    let i = c.loop-place.place-index in
    let edges = c.loop-place.edges in
    let same = c.loop-place.invariant.same_length in
    let below = c.requires i 0 c.loop-place-test.true in
    let within : get_or places i 0 < length edges = omega (arith, same, below) in
    next_set places i c.args.edges.now edges c.set_kind.new.self
    c.loop-place-test.true within c.loop-place.invariant c.set_kind.ensures
