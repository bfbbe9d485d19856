-- The opcodes of the table are those of 32-bit instructions.
use Rattle.std.proofs.Common.{◌≡◌, ◌≢◌, ℕ, Bool, true, false, eqb, Some, None, refl, arith}
use Rattle.std.proofs.lemmas.Bool.Decides.{nat_tests}
use Rattle.rv_decode.specs.Fields.{field}
use Rattle.rv_decode.specs.Table.{instruction}
use Rattle.rv_decode.specs.Laws.{EachHas32Bits}
use Rattle.rv_decode.specs.declared.instructions.Insn.{Insn}
use Rattle.rv_decode.proofs.ByOpcode.{opcode_none}

none_if_short : (w : ℕ) → field w 1 0 ≢ 3 → instruction w ≡ None
none_if_short w h = opcode_none w (omega arith) (omega arith) (omega arith) (omega arith) (omega arith) (omega arith) (omega arith) (omega arith) (omega arith) (omega arith) (omega arith) (omega arith) (omega arith) (omega arith)

none_if_long : (w : ℕ) → field w 4 2 ≡ 7 → instruction w ≡ None
none_if_long w h = opcode_none w (omega arith) (omega arith) (omega arith) (omega arith) (omega arith) (omega arith) (omega arith) (omega arith) (omega arith) (omega arith) (omega arith) (omega arith) (omega arith) (omega arith)

ends_in_3 : (w : ℕ) (found : Insn) (b : Bool) → eqb (field w 1 0) 3 ≡ b → instruction w ≡ Some found → field w 1 0 ≡ 3
ends_in_3 w found true t e = grind (arith, nat_tests)
ends_in_3 w found false t e =
    let short : field w 1 0 ≢ 3 = grind (arith, nat_tests) in
    let none = none_if_short w short in
    cc

pub each_has_32_bits : EachHas32Bits
each_has_32_bits w found e = (ends_in_3 w found (eqb (field w 1 0) 3) refl e, λ long. let none = none_if_long w long in cc)
