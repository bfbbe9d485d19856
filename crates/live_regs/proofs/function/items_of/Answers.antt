use Rattle.std.proofs.Common.{◌≡◌, length, arith}
use Rattle.live_regs.proofs.function.items_of.Goals as goal

pub returns : goal.returns
returns c =
    let as_many : length c.loop-place.items.items ≡ c.loop-place.place = c.loop-place.invariant.0 in
    record { as_many = omega (arith, c.loop-place-test.false, c.loop-place.auto.place-end); each = λ i d lt. c.loop-place.invariant.1 i d (omega (arith, c.loop-place-test.false)) }
