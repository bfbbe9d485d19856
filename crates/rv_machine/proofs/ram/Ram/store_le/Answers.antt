use Rattle.std.proofs.Common.{◌≡◌, ℕ, ◌+◌, ◌-◌, ◌*◌, ◌%◌, ◌/◌, ◌^◌, ◌<◌, ◌≤◌, Some, None, sym, ap, ◌∙◌, subst, arith}
use Rattle.rv_machine.specs.Memory.{Bytes, next_byte, put, stored}
use Rattle.rv_machine.proofs.ByteLoops.{stored-more}
use Rattle.rv_machine.proofs.ram.Ram.store_le.Goals as goal

pub loop-left-preserved : goal.loop-left-preserved
loop-left-preserved g c =
    let at = c.loop-left.at in
    let rest = c.loop-left.rest in
    let before = g.Self.Ram.bytes c.loop-left.self in
    ap (λ (memory : Bytes). stored (c.loop-left.left - 1) memory (next_byte at) (rest / 256)) c.store.ensures.bytes
    ∙ sym (stored-more c.loop-left.left at rest before c.loop-left-test.true)
    ∙ c.loop-left.invariant
