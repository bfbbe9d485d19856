-- What a word of the float table means, by its opcode.
use Rattle.std.proofs.Common.{◌≡◌, ◌≢◌, ℕ, Some, None, refl, if◌then◌else◌, ◌&&◌, [], ◌∷◌}
use Rattle.std.proofs.lemmas.Bool.{ne_eqb}
use Rattle.rv_decode.specs.Fields.{opcode, funct3, funct7, rs2}
use Rattle.rv_float.specs.Table.{float_instruction, float_rows, memory_rows, fused_rows, operation_rows, first_meaning, is_among, precision, rounds, within, from_integer}

pub load_is : (w : ℕ) → opcode w ≡ 0x07 → float_instruction w ≡ (if is_among (2 ∷ 3 ∷ []) (funct3 w) then Some (from_integer w) else None)
unfolding float_instruction float_rows memory_rows fused_rows operation_rows
load_is w is = rw is refl

pub store_is : (w : ℕ) → opcode w ≡ 0x27 → float_instruction w ≡ (if is_among (2 ∷ 3 ∷ []) (funct3 w) then Some (from_integer w) else None)
unfolding float_instruction float_rows memory_rows fused_rows operation_rows
store_is w is = rw is refl

pub madd_is : (w : ℕ) → opcode w ≡ 0x43 → float_instruction w ≡ (if is_among (0 ∷ 1 ∷ []) (precision w) && rounds w then Some (within w) else None)
unfolding float_instruction float_rows memory_rows fused_rows operation_rows
madd_is w is = rw is refl

pub msub_is : (w : ℕ) → opcode w ≡ 0x47 → float_instruction w ≡ (if is_among (0 ∷ 1 ∷ []) (precision w) && rounds w then Some (within w) else None)
unfolding float_instruction float_rows memory_rows fused_rows operation_rows
msub_is w is = rw is refl

pub nmsub_is : (w : ℕ) → opcode w ≡ 0x4B → float_instruction w ≡ (if is_among (0 ∷ 1 ∷ []) (precision w) && rounds w then Some (within w) else None)
unfolding float_instruction float_rows memory_rows fused_rows operation_rows
nmsub_is w is = rw is refl

pub nmadd_is : (w : ℕ) → opcode w ≡ 0x4F → float_instruction w ≡ (if is_among (0 ∷ 1 ∷ []) (precision w) && rounds w then Some (within w) else None)
unfolding float_instruction float_rows memory_rows fused_rows operation_rows
nmadd_is w is = rw is refl

pub operation_is : (w : ℕ) → opcode w ≡ 0x53 → float_instruction w ≡ first_meaning operation_rows w
unfolding float_instruction float_rows memory_rows fused_rows
operation_is w is = rw is refl

pub from_integer_to_single : (w : ℕ) → opcode w ≡ 0x53 → funct7 w ≡ 0x68 → first_meaning operation_rows w ≡ (if is_among (0 ∷ 1 ∷ 2 ∷ 3 ∷ []) (rs2 w) && rounds w then Some (from_integer w) else None)
unfolding operation_rows
from_integer_to_single w is function = rw (is, function) refl

pub from_integer_to_double : (w : ℕ) → opcode w ≡ 0x53 → funct7 w ≡ 0x69 → first_meaning operation_rows w ≡ (if is_among (0 ∷ 1 ∷ 2 ∷ 3 ∷ []) (rs2 w) && rounds w then Some (from_integer w) else None)
unfolding operation_rows
from_integer_to_double w is function = rw (is, function) refl

pub other_is : (w : ℕ) → opcode w ≢ 0x07 → opcode w ≢ 0x27 → opcode w ≢ 0x43 → opcode w ≢ 0x47 → opcode w ≢ 0x4B → opcode w ≢ 0x4F → opcode w ≢ 0x53 → float_instruction w ≡ None
unfolding float_instruction float_rows memory_rows fused_rows operation_rows
other_is w a b c d e f g =
    rw (ne_eqb _ _ a, ne_eqb _ _ b, ne_eqb _ _ c, ne_eqb _ _ d, ne_eqb _ _ e, ne_eqb _ _ f, ne_eqb _ _ g) refl
