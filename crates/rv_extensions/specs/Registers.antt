-- What an instruction reads and writes of the integer registers, as masks: bit i stands for xi, and
-- x0, a constant, is in no mask.
use Rattle.std.specs.Prelude.{ℕ, ◌+◌, ◌^◌, ◌==◌, ◌&&◌, if◌then◌else◌, [], ◌∷◌, bit_or}
use Rattle.rv_decode.specs.Fields.{field, rd, rs1, rs2}
use Rattle.rv_decode.specs.declared.instructions.Insn.{Insn}
use Rattle.rv_decode.specs.declared.instructions.Insn.TheVariants.{Extension}
use Rattle.rv_float.specs.Table.{is_among}

-- the mask of one register
abbrev pub only : ℕ → ℕ
only r = if r == 0 then 0 else 2 ^ r

-- that of two
abbrev pub both : ℕ → ℕ → ℕ
both r s = bit_or (only r) (only s)

-- that of a register and the next; a pair that begins at x0 is the constant 0
abbrev pub pair : ℕ → ℕ
pair r = if r == 0 then 0 else both r (r + 1)

-- no integer register is used
abbrev pub without : ℕ → Insn
without w = Extension 0 0

-- rd is written
abbrev pub to_rd : ℕ → Insn
to_rd w = Extension 0 (only (rd w))

-- rs1 is read
abbrev pub from_rs1 : ℕ → Insn
from_rs1 w = Extension (only (rs1 w)) 0

-- rs1 is read and rd written
abbrev pub unary : ℕ → Insn
unary w = Extension (only (rs1 w)) (only (rd w))

-- rs1 and rs2 are read and rd is written
abbrev pub binary : ℕ → Insn
binary w = Extension (both (rs1 w) (rs2 w)) (only (rd w))

-- rd, rs1 and rs2 are read and rd is written
abbrev pub ternary : ℕ → Insn
ternary w = Extension (bit_or (both (rs1 w) (rs2 w)) (only (rd w))) (only (rd w))

-- the same of the pairs at rd and at rs2
abbrev pub ternary_pairs : ℕ → Insn
ternary_pairs w = Extension (bit_or (bit_or (only (rs1 w)) (pair (rs2 w))) (pair (rd w))) (pair (rd w))

-- rs1, rs2 and rs3, which is bits 31 to 27, are read and rd is written
abbrev pub fused : ℕ → Insn
fused w = Extension (bit_or (both (rs1 w) (rs2 w)) (only (field w 31 27))) (only (rd w))

-- a vector load or store reads its base, and its stride if bits 27 and 26 tell one
unfoldable pub vector_memory : ℕ → Insn
vector_memory w =
    Extension (if field w 27 26 == 2 then both (rs1 w) (rs2 w) else only (rs1 w)) 0

-- VMV.X.S, VCPOP.M and VFIRST.M among the vector operations of their class
unfoldable pub vector_result : ℕ → Insn
vector_result w =
    Extension 0
    (if field w 31 26 == 0b010000 && is_among (0 ∷ 16 ∷ 17 ∷ []) (rs1 w) then only (rd w) else 0)
