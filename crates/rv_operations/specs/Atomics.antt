-- What an atomic memory operation stores, on 4 or 8 bytes: x was in memory, y is the operand, and
-- both have the width (RISC-V Unprivileged ISA 20240411, section 14.4).
use Rattle.std.specs.Prelude.{ℕ, if◌then◌else◌, min, max, bit_and, bit_or, bit_xor, int_lt}
use Rattle.std.specs.Int.{Width, cast_signed}
use Rattle.rv_decode.specs.declared.instructions.AtomicKind.{AtomicKind}
use Rattle.rv_decode.specs.declared.instructions.AtomicKind.TheVariants as atomics
use Rattle.rv_operations.specs.Arithmetic.{sum}

-- LR stores nothing: what was there stays. SC stores its operand, as a swap does.
unfoldable pub atomic_result : Width → AtomicKind → ℕ → ℕ → ℕ
atomic_result w atomics.Lr x y = x  -- 14.2
atomic_result w atomics.Sc x y = y  -- 14.2
atomic_result w atomics.Swap x y = y  -- 14.4
atomic_result w atomics.Add x y = sum w x y  -- 14.4
atomic_result w atomics.Xor x y = bit_xor x y  -- 14.4
atomic_result w atomics.And x y = bit_and x y  -- 14.4
atomic_result w atomics.Or x y = bit_or x y  -- 14.4
atomic_result w atomics.Min x y = if int_lt (cast_signed w y) (cast_signed w x) then y else x  -- 14.4
atomic_result w atomics.Max x y = if int_lt (cast_signed w x) (cast_signed w y) then y else x  -- 14.4
atomic_result w atomics.Minu x y = min x y  -- 14.4
atomic_result w atomics.Maxu x y = max x y  -- 14.4
