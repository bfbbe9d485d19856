-- What is left of the table of floats in integer registers for a word whose opcode is known.
use Rattle.std.proofs.Common.{◌≡◌, ◌≢◌, ℕ, Bool, true, false, ◌&&◌, ◌||◌, ◌==◌, ◌∙◌, if◌then◌else◌, [], ◌∷◌, Option, Some, None, refl, ne_eqb}
use Rattle.elf_image.specs.declared.extensions.Extensions.{Extensions}
use Rattle.rv_decode.specs.Fields.{opcode, field, rs1, rs2, funct3, funct6, funct7}
use Rattle.rv_decode.specs.declared.instructions.Insn.{Insn}
use Rattle.rv_float.specs.Table.{is_among}
use Rattle.rv_extensions.specs.Rows.{meets}
use Rattle.rv_extensions.specs.Registers.{to_rd, from_rs1, unary, binary, fused}
use Rattle.rv_extensions.specs.Table.{rounds}
use Rattle.rv_extensions.specs.IntegerFloats.{integer_float, integer_float_rows, integer_fused_rows, integer_operation_rows, integer_half_rows, integer_scalar_rows}
use Rattle.rv_extensions.proofs.Apart.{no_meaning}

and_true : (b : Bool) → (b && true) ≡ b
and_true true = refl
and_true false = refl

and_false : (b : Bool) → (b && false) ≡ false
and_false true = refl
and_false false = refl

or_false : (b : Bool) → (b || false) ≡ b
or_false true = refl
or_false false = refl

-- ---- a file that does not name them

pub not_named : (e : Extensions) (w : ℕ) → e.zfinx ≡ false → integer_float e w ≡ None
unfolding integer_float integer_float_rows integer_fused_rows integer_operation_rows integer_half_rows integer_scalar_rows
not_named e w off = no_meaning e integer_float_rows (rw off refl) w

-- two rows that are one operation

one_of_two : (x : Option Insn) (r a c k : Bool) → (if a && r then x else (if (c && r) && k then x else None)) ≡ (if r && (a || (c && k)) then x else None)
one_of_two x true true c k = refl
one_of_two x true false c k = simp and_true
one_of_two x false true c k = simp and_false
one_of_two x false false c k = simp and_false

one_alone : (x : Option Insn) (r c k : Bool) → (if (c && r) && k then x else None) ≡ (if r && (c && k) then x else None)
one_alone x true c k = simp and_true
one_alone x false c k = simp and_false

-- ---- by the opcode

pub fused_43 : (e : Extensions) (w : ℕ) → opcode w ≡ 0x43 → e.zfinx ≡ true → integer_float e w ≡
    (if meets w rounds && (is_among (0 ∷ 1 ∷ []) (field w 26 25) || ((field w 26 25 == 2) && e.zhinx)) then Some (fused w) else None)
unfolding integer_float integer_float_rows integer_fused_rows integer_operation_rows integer_half_rows integer_scalar_rows
fused_43 e w is on = rw (is, on) (simp (and_true, or_false)) ∙ one_of_two (Some (fused w)) (meets w rounds) (is_among (0 ∷ 1 ∷ []) (field w 26 25)) (field w 26 25 == 2) e.zhinx

pub fused_47 : (e : Extensions) (w : ℕ) → opcode w ≡ 0x47 → e.zfinx ≡ true → integer_float e w ≡
    (if meets w rounds && (is_among (0 ∷ 1 ∷ []) (field w 26 25) || ((field w 26 25 == 2) && e.zhinx)) then Some (fused w) else None)
unfolding integer_float integer_float_rows integer_fused_rows integer_operation_rows integer_half_rows integer_scalar_rows
fused_47 e w is on = rw (is, on) (simp (and_true, or_false)) ∙ one_of_two (Some (fused w)) (meets w rounds) (is_among (0 ∷ 1 ∷ []) (field w 26 25)) (field w 26 25 == 2) e.zhinx

pub fused_4b : (e : Extensions) (w : ℕ) → opcode w ≡ 0x4B → e.zfinx ≡ true → integer_float e w ≡
    (if meets w rounds && (is_among (0 ∷ 1 ∷ []) (field w 26 25) || ((field w 26 25 == 2) && e.zhinx)) then Some (fused w) else None)
unfolding integer_float integer_float_rows integer_fused_rows integer_operation_rows integer_half_rows integer_scalar_rows
fused_4b e w is on = rw (is, on) (simp (and_true, or_false)) ∙ one_of_two (Some (fused w)) (meets w rounds) (is_among (0 ∷ 1 ∷ []) (field w 26 25)) (field w 26 25 == 2) e.zhinx

pub fused_4f : (e : Extensions) (w : ℕ) → opcode w ≡ 0x4F → e.zfinx ≡ true → integer_float e w ≡
    (if meets w rounds && (is_among (0 ∷ 1 ∷ []) (field w 26 25) || ((field w 26 25 == 2) && e.zhinx)) then Some (fused w) else None)
unfolding integer_float integer_float_rows integer_fused_rows integer_operation_rows integer_half_rows integer_scalar_rows
fused_4f e w is on = rw (is, on) (simp (and_true, or_false)) ∙ one_of_two (Some (fused w)) (meets w rounds) (is_among (0 ∷ 1 ∷ []) (field w 26 25)) (field w 26 25 == 2) e.zhinx

pub at_00 : (e : Extensions) (w : ℕ) → opcode w ≡ 0x53 → funct7 w ≡ 0x00 → e.zfinx ≡ true → integer_float e w ≡
    (if is_among (0 ∷ 1 ∷ 2 ∷ 3 ∷ 4 ∷ 7 ∷ []) (funct3 w) then Some (binary w) else None)
unfolding integer_float integer_float_rows integer_fused_rows integer_operation_rows integer_half_rows integer_scalar_rows
at_00 e w is function on = rw (is, function, on) (simp (and_true, or_false))

pub at_01 : (e : Extensions) (w : ℕ) → opcode w ≡ 0x53 → funct7 w ≡ 0x01 → e.zfinx ≡ true → integer_float e w ≡
    (if is_among (0 ∷ 1 ∷ 2 ∷ 3 ∷ 4 ∷ 7 ∷ []) (funct3 w) then Some (binary w) else None)
unfolding integer_float integer_float_rows integer_fused_rows integer_operation_rows integer_half_rows integer_scalar_rows
at_01 e w is function on = rw (is, function, on) (simp (and_true, or_false))

pub at_02 : (e : Extensions) (w : ℕ) → opcode w ≡ 0x53 → funct7 w ≡ 0x02 → e.zfinx ≡ true → integer_float e w ≡
    (if (is_among (0 ∷ 1 ∷ 2 ∷ 3 ∷ 4 ∷ 7 ∷ []) (funct3 w)) && e.zhinx then Some (binary w) else None)
unfolding integer_float integer_float_rows integer_fused_rows integer_operation_rows integer_half_rows integer_scalar_rows
at_02 e w is function on = rw (is, function, on) (simp (and_true, or_false))

pub at_04 : (e : Extensions) (w : ℕ) → opcode w ≡ 0x53 → funct7 w ≡ 0x04 → e.zfinx ≡ true → integer_float e w ≡
    (if is_among (0 ∷ 1 ∷ 2 ∷ 3 ∷ 4 ∷ 7 ∷ []) (funct3 w) then Some (binary w) else None)
unfolding integer_float integer_float_rows integer_fused_rows integer_operation_rows integer_half_rows integer_scalar_rows
at_04 e w is function on = rw (is, function, on) (simp (and_true, or_false))

pub at_05 : (e : Extensions) (w : ℕ) → opcode w ≡ 0x53 → funct7 w ≡ 0x05 → e.zfinx ≡ true → integer_float e w ≡
    (if is_among (0 ∷ 1 ∷ 2 ∷ 3 ∷ 4 ∷ 7 ∷ []) (funct3 w) then Some (binary w) else None)
unfolding integer_float integer_float_rows integer_fused_rows integer_operation_rows integer_half_rows integer_scalar_rows
at_05 e w is function on = rw (is, function, on) (simp (and_true, or_false))

pub at_06 : (e : Extensions) (w : ℕ) → opcode w ≡ 0x53 → funct7 w ≡ 0x06 → e.zfinx ≡ true → integer_float e w ≡
    (if (is_among (0 ∷ 1 ∷ 2 ∷ 3 ∷ 4 ∷ 7 ∷ []) (funct3 w)) && e.zhinx then Some (binary w) else None)
unfolding integer_float integer_float_rows integer_fused_rows integer_operation_rows integer_half_rows integer_scalar_rows
at_06 e w is function on = rw (is, function, on) (simp (and_true, or_false))

pub at_08 : (e : Extensions) (w : ℕ) → opcode w ≡ 0x53 → funct7 w ≡ 0x08 → e.zfinx ≡ true → integer_float e w ≡
    (if is_among (0 ∷ 1 ∷ 2 ∷ 3 ∷ 4 ∷ 7 ∷ []) (funct3 w) then Some (binary w) else None)
unfolding integer_float integer_float_rows integer_fused_rows integer_operation_rows integer_half_rows integer_scalar_rows
at_08 e w is function on = rw (is, function, on) (simp (and_true, or_false))

pub at_09 : (e : Extensions) (w : ℕ) → opcode w ≡ 0x53 → funct7 w ≡ 0x09 → e.zfinx ≡ true → integer_float e w ≡
    (if is_among (0 ∷ 1 ∷ 2 ∷ 3 ∷ 4 ∷ 7 ∷ []) (funct3 w) then Some (binary w) else None)
unfolding integer_float integer_float_rows integer_fused_rows integer_operation_rows integer_half_rows integer_scalar_rows
at_09 e w is function on = rw (is, function, on) (simp (and_true, or_false))

pub at_0a : (e : Extensions) (w : ℕ) → opcode w ≡ 0x53 → funct7 w ≡ 0x0A → e.zfinx ≡ true → integer_float e w ≡
    (if (is_among (0 ∷ 1 ∷ 2 ∷ 3 ∷ 4 ∷ 7 ∷ []) (funct3 w)) && e.zhinx then Some (binary w) else None)
unfolding integer_float integer_float_rows integer_fused_rows integer_operation_rows integer_half_rows integer_scalar_rows
at_0a e w is function on = rw (is, function, on) (simp (and_true, or_false))

pub at_0c : (e : Extensions) (w : ℕ) → opcode w ≡ 0x53 → funct7 w ≡ 0x0C → e.zfinx ≡ true → integer_float e w ≡
    (if is_among (0 ∷ 1 ∷ 2 ∷ 3 ∷ 4 ∷ 7 ∷ []) (funct3 w) then Some (binary w) else None)
unfolding integer_float integer_float_rows integer_fused_rows integer_operation_rows integer_half_rows integer_scalar_rows
at_0c e w is function on = rw (is, function, on) (simp (and_true, or_false))

pub at_0d : (e : Extensions) (w : ℕ) → opcode w ≡ 0x53 → funct7 w ≡ 0x0D → e.zfinx ≡ true → integer_float e w ≡
    (if is_among (0 ∷ 1 ∷ 2 ∷ 3 ∷ 4 ∷ 7 ∷ []) (funct3 w) then Some (binary w) else None)
unfolding integer_float integer_float_rows integer_fused_rows integer_operation_rows integer_half_rows integer_scalar_rows
at_0d e w is function on = rw (is, function, on) (simp (and_true, or_false))

pub at_0e : (e : Extensions) (w : ℕ) → opcode w ≡ 0x53 → funct7 w ≡ 0x0E → e.zfinx ≡ true → integer_float e w ≡
    (if (is_among (0 ∷ 1 ∷ 2 ∷ 3 ∷ 4 ∷ 7 ∷ []) (funct3 w)) && e.zhinx then Some (binary w) else None)
unfolding integer_float integer_float_rows integer_fused_rows integer_operation_rows integer_half_rows integer_scalar_rows
at_0e e w is function on = rw (is, function, on) (simp (and_true, or_false))

pub at_10 : (e : Extensions) (w : ℕ) → opcode w ≡ 0x53 → funct7 w ≡ 0x10 → e.zfinx ≡ true → integer_float e w ≡
    (if is_among (0 ∷ 1 ∷ 2 ∷ []) (funct3 w) then Some (binary w) else None)
unfolding integer_float integer_float_rows integer_fused_rows integer_operation_rows integer_half_rows integer_scalar_rows
at_10 e w is function on = rw (is, function, on) (simp (and_true, or_false))

pub at_11 : (e : Extensions) (w : ℕ) → opcode w ≡ 0x53 → funct7 w ≡ 0x11 → e.zfinx ≡ true → integer_float e w ≡
    (if is_among (0 ∷ 1 ∷ 2 ∷ []) (funct3 w) then Some (binary w) else None)
unfolding integer_float integer_float_rows integer_fused_rows integer_operation_rows integer_half_rows integer_scalar_rows
at_11 e w is function on = rw (is, function, on) (simp (and_true, or_false))

pub at_12 : (e : Extensions) (w : ℕ) → opcode w ≡ 0x53 → funct7 w ≡ 0x12 → e.zfinx ≡ true → integer_float e w ≡
    (if is_among (0 ∷ 1 ∷ 2 ∷ []) (funct3 w) && e.zhinx then Some (binary w) else None)
unfolding integer_float integer_float_rows integer_fused_rows integer_operation_rows integer_half_rows integer_scalar_rows
at_12 e w is function on = rw (is, function, on) (simp (and_true, or_false))

pub at_14 : (e : Extensions) (w : ℕ) → opcode w ≡ 0x53 → funct7 w ≡ 0x14 → e.zfinx ≡ true → integer_float e w ≡
    (if is_among (0 ∷ 1 ∷ []) (funct3 w) then Some (binary w) else None)
unfolding integer_float integer_float_rows integer_fused_rows integer_operation_rows integer_half_rows integer_scalar_rows
at_14 e w is function on = rw (is, function, on) (simp (and_true, or_false))

pub at_15 : (e : Extensions) (w : ℕ) → opcode w ≡ 0x53 → funct7 w ≡ 0x15 → e.zfinx ≡ true → integer_float e w ≡
    (if is_among (0 ∷ 1 ∷ []) (funct3 w) then Some (binary w) else None)
unfolding integer_float integer_float_rows integer_fused_rows integer_operation_rows integer_half_rows integer_scalar_rows
at_15 e w is function on = rw (is, function, on) (simp (and_true, or_false))

pub at_16 : (e : Extensions) (w : ℕ) → opcode w ≡ 0x53 → funct7 w ≡ 0x16 → e.zfinx ≡ true → integer_float e w ≡
    (if is_among (0 ∷ 1 ∷ []) (funct3 w) && e.zhinx then Some (binary w) else None)
unfolding integer_float integer_float_rows integer_fused_rows integer_operation_rows integer_half_rows integer_scalar_rows
at_16 e w is function on = rw (is, function, on) (simp (and_true, or_false))

pub at_20 : (e : Extensions) (w : ℕ) → opcode w ≡ 0x53 → funct7 w ≡ 0x20 → e.zfinx ≡ true → integer_float e w ≡
    (if meets w rounds && ((rs2 w == 1) || ((rs2 w == 2) && (e.zhinx || e.zhinxmin))) then Some (unary w) else None)
unfolding integer_float integer_float_rows integer_fused_rows integer_operation_rows integer_half_rows integer_scalar_rows
at_20 e w is function on = rw (is, function, on) (simp (and_true, or_false)) ∙ one_of_two (Some (unary w)) (meets w rounds) (rs2 w == 1) (rs2 w == 2) (e.zhinx || e.zhinxmin)

pub at_21 : (e : Extensions) (w : ℕ) → opcode w ≡ 0x53 → funct7 w ≡ 0x21 → e.zfinx ≡ true → integer_float e w ≡
    (if meets w rounds && ((rs2 w == 0) || ((rs2 w == 2) && (e.zhinx || e.zhinxmin))) then Some (unary w) else None)
unfolding integer_float integer_float_rows integer_fused_rows integer_operation_rows integer_half_rows integer_scalar_rows
at_21 e w is function on = rw (is, function, on) (simp (and_true, or_false)) ∙ one_of_two (Some (unary w)) (meets w rounds) (rs2 w == 0) (rs2 w == 2) (e.zhinx || e.zhinxmin)

pub at_22 : (e : Extensions) (w : ℕ) → opcode w ≡ 0x53 → funct7 w ≡ 0x22 → e.zfinx ≡ true → integer_float e w ≡
    (if meets w rounds && (is_among (0 ∷ 1 ∷ []) (rs2 w) && (e.zhinx || e.zhinxmin)) then Some (unary w) else None)
unfolding integer_float integer_float_rows integer_fused_rows integer_operation_rows integer_half_rows integer_scalar_rows
at_22 e w is function on = rw (is, function, on) (simp (and_true, or_false)) ∙ one_alone (Some (unary w)) (meets w rounds) (is_among (0 ∷ 1 ∷ []) (rs2 w)) (e.zhinx || e.zhinxmin)

pub at_2c : (e : Extensions) (w : ℕ) → opcode w ≡ 0x53 → funct7 w ≡ 0x2C → e.zfinx ≡ true → integer_float e w ≡
    (if (rs2 w == 0) && (is_among (0 ∷ 1 ∷ 2 ∷ 3 ∷ 4 ∷ 7 ∷ []) (funct3 w)) then Some (unary w) else None)
unfolding integer_float integer_float_rows integer_fused_rows integer_operation_rows integer_half_rows integer_scalar_rows
at_2c e w is function on = rw (is, function, on) (simp (and_true, or_false))

pub at_2d : (e : Extensions) (w : ℕ) → opcode w ≡ 0x53 → funct7 w ≡ 0x2D → e.zfinx ≡ true → integer_float e w ≡
    (if (rs2 w == 0) && (is_among (0 ∷ 1 ∷ 2 ∷ 3 ∷ 4 ∷ 7 ∷ []) (funct3 w)) then Some (unary w) else None)
unfolding integer_float integer_float_rows integer_fused_rows integer_operation_rows integer_half_rows integer_scalar_rows
at_2d e w is function on = rw (is, function, on) (simp (and_true, or_false))

pub at_2e : (e : Extensions) (w : ℕ) → opcode w ≡ 0x53 → funct7 w ≡ 0x2E → e.zfinx ≡ true → integer_float e w ≡
    (if ((rs2 w == 0) && (is_among (0 ∷ 1 ∷ 2 ∷ 3 ∷ 4 ∷ 7 ∷ []) (funct3 w))) && e.zhinx then Some (unary w) else None)
unfolding integer_float integer_float_rows integer_fused_rows integer_operation_rows integer_half_rows integer_scalar_rows
at_2e e w is function on = rw (is, function, on) (simp (and_true, or_false))

pub at_50 : (e : Extensions) (w : ℕ) → opcode w ≡ 0x53 → funct7 w ≡ 0x50 → e.zfinx ≡ true → integer_float e w ≡
    (if is_among (0 ∷ 1 ∷ 2 ∷ []) (funct3 w) then Some (binary w) else None)
unfolding integer_float integer_float_rows integer_fused_rows integer_operation_rows integer_half_rows integer_scalar_rows
at_50 e w is function on = rw (is, function, on) (simp (and_true, or_false))

pub at_51 : (e : Extensions) (w : ℕ) → opcode w ≡ 0x53 → funct7 w ≡ 0x51 → e.zfinx ≡ true → integer_float e w ≡
    (if is_among (0 ∷ 1 ∷ 2 ∷ []) (funct3 w) then Some (binary w) else None)
unfolding integer_float integer_float_rows integer_fused_rows integer_operation_rows integer_half_rows integer_scalar_rows
at_51 e w is function on = rw (is, function, on) (simp (and_true, or_false))

pub at_52 : (e : Extensions) (w : ℕ) → opcode w ≡ 0x53 → funct7 w ≡ 0x52 → e.zfinx ≡ true → integer_float e w ≡
    (if is_among (0 ∷ 1 ∷ 2 ∷ []) (funct3 w) && e.zhinx then Some (binary w) else None)
unfolding integer_float integer_float_rows integer_fused_rows integer_operation_rows integer_half_rows integer_scalar_rows
at_52 e w is function on = rw (is, function, on) (simp (and_true, or_false))

pub at_60 : (e : Extensions) (w : ℕ) → opcode w ≡ 0x53 → funct7 w ≡ 0x60 → e.zfinx ≡ true → integer_float e w ≡
    (if is_among (0 ∷ 1 ∷ 2 ∷ 3 ∷ []) (rs2 w) && (is_among (0 ∷ 1 ∷ 2 ∷ 3 ∷ 4 ∷ 7 ∷ []) (funct3 w)) then Some (unary w) else None)
unfolding integer_float integer_float_rows integer_fused_rows integer_operation_rows integer_half_rows integer_scalar_rows
at_60 e w is function on = rw (is, function, on) (simp (and_true, or_false))

pub at_61 : (e : Extensions) (w : ℕ) → opcode w ≡ 0x53 → funct7 w ≡ 0x61 → e.zfinx ≡ true → integer_float e w ≡
    (if is_among (0 ∷ 1 ∷ 2 ∷ 3 ∷ []) (rs2 w) && (is_among (0 ∷ 1 ∷ 2 ∷ 3 ∷ 4 ∷ 7 ∷ []) (funct3 w)) then Some (unary w) else None)
unfolding integer_float integer_float_rows integer_fused_rows integer_operation_rows integer_half_rows integer_scalar_rows
at_61 e w is function on = rw (is, function, on) (simp (and_true, or_false))

pub at_62 : (e : Extensions) (w : ℕ) → opcode w ≡ 0x53 → funct7 w ≡ 0x62 → e.zfinx ≡ true → integer_float e w ≡
    (if (is_among (0 ∷ 1 ∷ 2 ∷ 3 ∷ []) (rs2 w) && (is_among (0 ∷ 1 ∷ 2 ∷ 3 ∷ 4 ∷ 7 ∷ []) (funct3 w))) && e.zhinx then Some (unary w) else None)
unfolding integer_float integer_float_rows integer_fused_rows integer_operation_rows integer_half_rows integer_scalar_rows
at_62 e w is function on = rw (is, function, on) (simp (and_true, or_false))

pub at_68 : (e : Extensions) (w : ℕ) → opcode w ≡ 0x53 → funct7 w ≡ 0x68 → e.zfinx ≡ true → integer_float e w ≡
    (if is_among (0 ∷ 1 ∷ 2 ∷ 3 ∷ []) (rs2 w) && (is_among (0 ∷ 1 ∷ 2 ∷ 3 ∷ 4 ∷ 7 ∷ []) (funct3 w)) then Some (unary w) else None)
unfolding integer_float integer_float_rows integer_fused_rows integer_operation_rows integer_half_rows integer_scalar_rows
at_68 e w is function on = rw (is, function, on) (simp (and_true, or_false))

pub at_69 : (e : Extensions) (w : ℕ) → opcode w ≡ 0x53 → funct7 w ≡ 0x69 → e.zfinx ≡ true → integer_float e w ≡
    (if is_among (0 ∷ 1 ∷ 2 ∷ 3 ∷ []) (rs2 w) && (is_among (0 ∷ 1 ∷ 2 ∷ 3 ∷ 4 ∷ 7 ∷ []) (funct3 w)) then Some (unary w) else None)
unfolding integer_float integer_float_rows integer_fused_rows integer_operation_rows integer_half_rows integer_scalar_rows
at_69 e w is function on = rw (is, function, on) (simp (and_true, or_false))

pub at_6a : (e : Extensions) (w : ℕ) → opcode w ≡ 0x53 → funct7 w ≡ 0x6A → e.zfinx ≡ true → integer_float e w ≡
    (if (is_among (0 ∷ 1 ∷ 2 ∷ 3 ∷ []) (rs2 w) && (is_among (0 ∷ 1 ∷ 2 ∷ 3 ∷ 4 ∷ 7 ∷ []) (funct3 w))) && e.zhinx then Some (unary w) else None)
unfolding integer_float integer_float_rows integer_fused_rows integer_operation_rows integer_half_rows integer_scalar_rows
at_6a e w is function on = rw (is, function, on) (simp (and_true, or_false))

pub at_70 : (e : Extensions) (w : ℕ) → opcode w ≡ 0x53 → funct7 w ≡ 0x70 → e.zfinx ≡ true → integer_float e w ≡
    (if (rs2 w == 0) && (funct3 w == 1) then Some (unary w) else None)
unfolding integer_float integer_float_rows integer_fused_rows integer_operation_rows integer_half_rows integer_scalar_rows
at_70 e w is function on = rw (is, function, on) (simp (and_true, or_false))

pub at_71 : (e : Extensions) (w : ℕ) → opcode w ≡ 0x53 → funct7 w ≡ 0x71 → e.zfinx ≡ true → integer_float e w ≡
    (if (rs2 w == 0) && (funct3 w == 1) then Some (unary w) else None)
unfolding integer_float integer_float_rows integer_fused_rows integer_operation_rows integer_half_rows integer_scalar_rows
at_71 e w is function on = rw (is, function, on) (simp (and_true, or_false))

pub at_72 : (e : Extensions) (w : ℕ) → opcode w ≡ 0x53 → funct7 w ≡ 0x72 → e.zfinx ≡ true → integer_float e w ≡
    (if ((rs2 w == 0) && (funct3 w == 1)) && e.zhinx then Some (unary w) else None)
unfolding integer_float integer_float_rows integer_fused_rows integer_operation_rows integer_half_rows integer_scalar_rows
at_72 e w is function on = rw (is, function, on) (simp (and_true, or_false))

pub at_none : (e : Extensions) (w : ℕ) → opcode w ≡ 0x53 → funct7 w ≢ 0x00 → funct7 w ≢ 0x01 → funct7 w ≢ 0x02 → funct7 w ≢ 0x04 → funct7 w ≢ 0x05 → funct7 w ≢ 0x06 → funct7 w ≢ 0x08 → funct7 w ≢ 0x09 → funct7 w ≢ 0x0A → funct7 w ≢ 0x0C → funct7 w ≢ 0x0D → funct7 w ≢ 0x0E → funct7 w ≢ 0x10 → funct7 w ≢ 0x11 → funct7 w ≢ 0x12 → funct7 w ≢ 0x14 → funct7 w ≢ 0x15 → funct7 w ≢ 0x16 → funct7 w ≢ 0x20 → funct7 w ≢ 0x21 → funct7 w ≢ 0x22 → funct7 w ≢ 0x2C → funct7 w ≢ 0x2D → funct7 w ≢ 0x2E → funct7 w ≢ 0x50 → funct7 w ≢ 0x51 → funct7 w ≢ 0x52 → funct7 w ≢ 0x60 → funct7 w ≢ 0x61 → funct7 w ≢ 0x62 → funct7 w ≢ 0x68 → funct7 w ≢ 0x69 → funct7 w ≢ 0x6A → funct7 w ≢ 0x70 → funct7 w ≢ 0x71 → funct7 w ≢ 0x72 → integer_float e w ≡ None
unfolding integer_float integer_float_rows integer_fused_rows integer_operation_rows integer_half_rows integer_scalar_rows
at_none e w is a0 a1 a2 a3 a4 a5 a6 a7 a8 a9 a10 a11 a12 a13 a14 a15 a16 a17 a18 a19 a20 a21 a22 a23 a24 a25 a26 a27 a28 a29 a30 a31 a32 a33 a34 a35 = rw (is, ne_eqb _ _ a0, ne_eqb _ _ a1, ne_eqb _ _ a2, ne_eqb _ _ a3, ne_eqb _ _ a4, ne_eqb _ _ a5, ne_eqb _ _ a6, ne_eqb _ _ a7, ne_eqb _ _ a8, ne_eqb _ _ a9, ne_eqb _ _ a10, ne_eqb _ _ a11, ne_eqb _ _ a12, ne_eqb _ _ a13, ne_eqb _ _ a14, ne_eqb _ _ a15, ne_eqb _ _ a16, ne_eqb _ _ a17, ne_eqb _ _ a18, ne_eqb _ _ a19, ne_eqb _ _ a20, ne_eqb _ _ a21, ne_eqb _ _ a22, ne_eqb _ _ a23, ne_eqb _ _ a24, ne_eqb _ _ a25, ne_eqb _ _ a26, ne_eqb _ _ a27, ne_eqb _ _ a28, ne_eqb _ _ a29, ne_eqb _ _ a30, ne_eqb _ _ a31, ne_eqb _ _ a32, ne_eqb _ _ a33, ne_eqb _ _ a34, ne_eqb _ _ a35) refl

-- ---- vectors

pub scalar_off : (e : Extensions) (w : ℕ) → opcode w ≡ 0x57 → e.vector ≡ false → integer_float e w ≡ None
unfolding integer_float integer_float_rows integer_fused_rows integer_operation_rows integer_half_rows integer_scalar_rows
scalar_off e w is off = rw (is, off) (simp and_false)

pub scalar_5 : (e : Extensions) (w : ℕ) → opcode w ≡ 0x57 → e.zfinx ≡ true → e.vector ≡ true → funct3 w ≡ 5 → integer_float e w ≡ Some (from_rs1 w)
unfolding integer_float integer_float_rows integer_fused_rows integer_operation_rows integer_half_rows integer_scalar_rows
scalar_5 e w is on named function = rw (is, on, named, function) refl

pub scalar_1 : (e : Extensions) (w : ℕ) → opcode w ≡ 0x57 → e.zfinx ≡ true → e.vector ≡ true → funct3 w ≡ 1 → integer_float e w ≡ (if (funct6 w == 0b010000) && (rs1 w == 0) then Some (to_rd w) else None)
unfolding integer_float integer_float_rows integer_fused_rows integer_operation_rows integer_half_rows integer_scalar_rows
scalar_1 e w is on named function = rw (is, on, named, function) (simp (and_true, or_false))

pub scalar_none : (e : Extensions) (w : ℕ) → opcode w ≡ 0x57 → funct3 w ≢ 5 → funct3 w ≢ 1 → integer_float e w ≡ None
unfolding integer_float integer_float_rows integer_fused_rows integer_operation_rows integer_half_rows integer_scalar_rows
scalar_none e w is a b = rw (is, ne_eqb _ _ a, ne_eqb _ _ b) refl

-- another opcode
pub other_is : (e : Extensions) (w : ℕ) → opcode w ≢ 0x43 → opcode w ≢ 0x47 → opcode w ≢ 0x4B → opcode w ≢ 0x4F → opcode w ≢ 0x53 → opcode w ≢ 0x57 → integer_float e w ≡ None
unfolding integer_float integer_float_rows integer_fused_rows integer_operation_rows integer_half_rows integer_scalar_rows
other_is e w a b c d f g = rw (ne_eqb _ _ a, ne_eqb _ _ b, ne_eqb _ _ c, ne_eqb _ _ d, ne_eqb _ _ f, ne_eqb _ _ g) refl
