-- The operands of an instruction that a word means are within their fields.
use Rattle.std.proofs.Common.{ℕ, suc, ◌-◌, ◌<◌, Bool, true, false, List, [], ◌∷◌, ◌++◌, Option, Some, None, arith}
use Rattle.std.specs.Prelude.{IfSome, nat_lt, pos, negsuc, ◌-ℤ◌}
use Rattle.std.specs.Option.{option_and_then, option_or}
use Rattle.std.proofs.lemmas.Bool.{cond_both}
use Rattle.std.proofs.lemmas.Bool.Decides.{nat_tests}
use Rattle.elf_image.specs.declared.extensions.Extensions.{Extensions}
use Rattle.rv_decode.specs.Fields as fields
use Rattle.rv_decode.specs.Table.{Row, holds, first_meaning, instruction, rows, upper_rows, jump_rows, branch_rows, load_rows, store_rows, imm_rows, imm_w_rows, reg_rows, reg_w_rows, atomic_rows_of, atomic_rows, fence_rows, system_rows}
use Rattle.rv_decode.specs.declared.instructions.Insn.{Insn}
use Rattle.rv_float.specs.Table as float
use Rattle.elf_image.specs.declared.extensions.Extensions.{Extensions}
use Rattle.rv_flow.specs.Placed.{float_insn, rv64gc_insn}
use Rattle.jump_table.specs.Inner.Operands.{IsImmediate, HasOperands}

-- What each row of a list means has a property.
abbrev AllMean : (Insn → Type 0) → List Row → Type 0
AllMean P [] = Unit {0}
AllMean P (r ∷ rs) = ((w : ℕ) → P (r.meaning w)) × AllMean P rs

all-append : (P : Insn → Type 0) (rs ss : List Row) → AllMean P rs → AllMean P ss → AllMean P (rs ++ ss)
all-append P [] ss h k = k
all-append P (r ∷ rs) ss h k = (h.0, all-append P rs ss h.1 k)

first-all : (P : Insn → Type 0) (rs : List Row) → AllMean P rs → (w : ℕ) → IfSome (first_meaning rs w) P
first-all P [] h w = tt
first-all P (r ∷ rs) h w =
    cond_both (holds r w) (Some (r.meaning w)) (first_meaning rs w) (λ o. IfSome o P) (λ _. h.0 w) (λ _. first-all P rs h.1 w)

pub rd_fits : (w : ℕ) → fields.rd w < 32
rd_fits w = omega arith

pub rs1_fits : (w : ℕ) → fields.rs1 w < 32
rs1_fits w = omega arith

rs2_fits : (w : ℕ) → fields.rs2 w < 32
rs2_fits w = omega arith

-- the lower half of the numbers of 12 bits is as it is, and the upper half is negative
extended_fits : (n : ℕ) → n < 4096 → IsImmediate (fields.sign_extended 12 n)
extended_fits n h =
    cond_both (nat_lt n 2048) (pos n) (pos n -ℤ pos 4096) IsImmediate
    (λ low. grind (arith, nat_tests))
    (λ high. cond_both (nat_lt n 4096) (negsuc (4096 - suc n)) (pos (n - 4096)) IsImmediate (λ _. tt) (λ _. omega arith))

i_immediate_fits : (w : ℕ) → IsImmediate (fields.i_immediate w)
i_immediate_fits w = extended_fits (fields.field w 31 20) (omega arith)

shift_fits : (w : ℕ) → IsImmediate (fields.shift_amount w)
shift_fits w = let h : fields.field w 25 20 < 64 = omega arith in omega arith

upper : AllMean HasOperands upper_rows
unfolding upper_rows
upper = (rd_fits, (rd_fits, tt))

jumps : AllMean HasOperands jump_rows
unfolding jump_rows
jumps = (rd_fits, ((λ w. (rd_fits w, rs1_fits w)), tt))

two : (w : ℕ) → (fields.rs1 w < 32) × (fields.rs2 w < 32)
two w = (rs1_fits w, rs2_fits w)

branches : AllMean HasOperands branch_rows
unfolding branch_rows
branches = (two, (two, (two, (two, (two, (two, tt))))))

pub read : (w : ℕ) → (fields.rd w < 32) × (fields.rs1 w < 32)
read w = (rd_fits w, rs1_fits w)

loads : AllMean HasOperands load_rows
unfolding load_rows
loads = (read, (read, (read, (read, (read, (read, (read, tt)))))))

none : (w : ℕ) → Unit {0}
none w = tt

stores : AllMean HasOperands store_rows
unfolding store_rows
stores = (none, (none, (none, (none, tt))))

by_immediate : (w : ℕ) → (fields.rd w < 32) × (fields.rs1 w < 32) × IsImmediate (fields.i_immediate w)
by_immediate w = (rd_fits w, rs1_fits w, i_immediate_fits w)

by_amount : (w : ℕ) → (fields.rd w < 32) × (fields.rs1 w < 32) × IsImmediate (fields.shift_amount w)
by_amount w = (rd_fits w, rs1_fits w, shift_fits w)

imms : AllMean HasOperands imm_rows
unfolding imm_rows
imms = (by_immediate, (by_immediate, (by_immediate, (by_immediate, (by_immediate, (by_immediate, (by_amount, (by_amount, (by_amount, tt)))))))))

imms_w : AllMean HasOperands imm_w_rows
unfolding imm_w_rows
imms_w = (read, (read, (read, (read, tt))))

pub three : (w : ℕ) → (fields.rd w < 32) × (fields.rs1 w < 32) × (fields.rs2 w < 32)
three w = (rd_fits w, rs1_fits w, rs2_fits w)

regs : AllMean HasOperands reg_rows
unfolding reg_rows
regs = (three, (three, (three, (three, (three, (three, (three, (three, (three, (three, (three, (three, (three, (three, (three, (three, (three, (three, tt))))))))))))))))))

regs_w : AllMean HasOperands reg_w_rows
unfolding reg_w_rows
regs_w = (rd_fits, (rd_fits, (rd_fits, (rd_fits, (rd_fits, (rd_fits, (rd_fits, (rd_fits, (rd_fits, (rd_fits, tt))))))))))

atomics_of : (f3 : ℕ) (wide : Bool) → AllMean HasOperands (atomic_rows_of f3 wide)
unfolding atomic_rows_of
atomics_of f3 wide = (rd_fits, (rd_fits, (rd_fits, (rd_fits, (rd_fits, (rd_fits, (rd_fits, (rd_fits, (rd_fits, (rd_fits, (rd_fits, tt)))))))))))

atomics : AllMean HasOperands atomic_rows
unfolding atomic_rows
atomics = all-append HasOperands (atomic_rows_of 2 false) (atomic_rows_of 3 true) (atomics_of 2 false) (atomics_of 3 true)

fences : AllMean HasOperands fence_rows
unfolding fence_rows
fences = (none, (none, tt))

systems : AllMean HasOperands system_rows
unfolding system_rows
systems = (none, (none, (rd_fits, (rd_fits, (rd_fits, (rd_fits, (rd_fits, (rd_fits, tt))))))))

all_rows : AllMean HasOperands rows
unfolding rows
all_rows =
    let join = all-append HasOperands in
    join _ _ (join _ _ (join _ _ (join _ _ (join _ _ (join _ _ (join _ _ (join _ _ (join _ _ (join _ _ (join upper_rows jump_rows upper jumps) branches) loads) stores) imms) imms_w) regs) regs_w) atomics) fences) systems

pub operands_fit : (w : ℕ) → IfSome (instruction w) HasOperands
unfolding instruction
operands_fit w = first-all HasOperands rows all_rows w

-- The instruction that a word means, where there is a word.
pub operands_fit_there : (word : Option ℕ) → IfSome (option_and_then instruction word) HasOperands
operands_fit_there None = tt
operands_fit_there (Some w) = operands_fit w

-- The same of the float table, whose instructions write rd or no integer register.
pub zero_fits : (w : ℕ) → 0 < 32
zero_fits w = omega arith

abbrev AllMeanFloat : List float.Row → Type 0
AllMeanFloat [] = Unit {0}
AllMeanFloat (r ∷ rs) = ((w : ℕ) → HasOperands (r.meaning w)) × AllMeanFloat rs

float-append : (rs ss : List float.Row) → AllMeanFloat rs → AllMeanFloat ss → AllMeanFloat (rs ++ ss)
float-append [] ss h k = k
float-append (r ∷ rs) ss h k = (h.0, float-append rs ss h.1 k)

first-float : (rs : List float.Row) → AllMeanFloat rs → (w : ℕ) → IfSome (float.first_meaning rs w) HasOperands
first-float [] h w = tt
first-float (r ∷ rs) h w =
    cond_both (r.holds w) (Some (r.meaning w)) (float.first_meaning rs w) (λ o. IfSome o HasOperands) (λ _. h.0 w) (λ _. first-float rs h.1 w)

float_memory : AllMeanFloat float.memory_rows
unfolding float.memory_rows
float_memory = (zero_fits, (zero_fits, tt))

float_fused : AllMeanFloat float.fused_rows
unfolding float.fused_rows
float_fused = (zero_fits, (zero_fits, (zero_fits, (zero_fits, tt))))

float_operations : AllMeanFloat float.operation_rows
unfolding float.operation_rows
float_operations =
    (zero_fits, (zero_fits, (zero_fits, (zero_fits, (zero_fits, (zero_fits, (rd_fits, (rd_fits, (rd_fits, (zero_fits, (zero_fits, tt)))))))))))

pub float_operands_fit : (w : ℕ) → IfSome (float.float_instruction w) HasOperands
unfolding float.float_instruction float.float_rows
float_operands_fit w =
    first-float (float.memory_rows ++ float.fused_rows ++ float.operation_rows)
    (float-append _ _ (float-append _ _ float_memory float_fused) float_operations) w

pub either_fits : (first second : Option Insn) → IfSome first HasOperands → IfSome second HasOperands → IfSome (option_or first second) HasOperands
either_fits None second h k = k
either_fits (Some insn) second h k = h

-- The instruction of RV64GC that a word is, by either table.
pub rv64gc_operands_fit : (e : Extensions) (w : ℕ) → IfSome (rv64gc_insn e w) HasOperands
rv64gc_operands_fit e w =
    either_fits _ _ (operands_fit w)
    (cond_both e.zfinx None (float.float_instruction w) (λ (o : Option Insn). IfSome o HasOperands) (λ _. tt) (λ _. float_operands_fit w))
