-- No word is an instruction of an extension and of RV64GC: each row of the one clashes with each row of the
-- other. The rows of the float table are brought into the form of conditions first.
use Rattle.std.proofs.Common.{◌≡◌, ℕ, zero, suc, Bool, true, false, cond, eqb, not, ◌&&◌, ◌||◌, ◌==◌, if◌then◌else◌, List, [], ◌∷◌, ◌++◌, Option, Some, None, refl, sym, ap, ◌∙◌, slice_get}
use Rattle.std.specs.List.{list_all, list_any}
use Rattle.std.specs.Option.{option_or}
use Rattle.elf_image.specs.declared.extensions.Extensions.{Extensions}
use Rattle.rv_decode.specs.declared.instructions.Insn.{Insn}
use Rattle.rv_decode.specs.Table as base
use Rattle.rv_decode.specs.Table.{rows, upper_rows, jump_rows, branch_rows, load_rows, store_rows, imm_rows, imm_w_rows, reg_rows, reg_w_rows, atomic_rows_of, atomic_rows, fence_rows, system_rows}
use Rattle.rv_decode.proofs.Apart.{none_where_no_row_holds}
use Rattle.rv_float.specs.Table as float
use Rattle.rv_float.specs.Table.{float_instruction, float_rows, memory_rows, fused_rows, operation_rows, is_among}
use Rattle.rv_extensions.specs.Rows.{Condition, Row, meets, holds, first_meaning, bits, opcode_is, funct3_in, funct7_in, rs2_in}
use Rattle.rv_extensions.specs.Table as table
use Rattle.rv_extensions.specs.Table.{extension_rows, extension_instruction, rounds}
use Rattle.rv_extensions.specs.IntegerFloats.{integer_float, integer_float_rows, integer_fused_rows, integer_operation_rows, integer_half_rows, integer_scalar_rows, named_instruction}
use Rattle.rv_extensions.specs.Laws.{TablesAreApart}
use Rattle.rv_extensions.proofs.IntegerBy.{not_named}
use Rattle.rv_extensions.proofs.Apart.{exclude, excluded, passes_at, comes_from, and_left, and_right}

-- ---- rows of the base table as conditions

abbrev as_condition : base.Condition → Condition
as_condition c = bits c.high c.low (c.value ∷ [])

abbrev as_conditions : List base.Condition → List Condition
as_conditions [] = []
as_conditions (c ∷ cs) = as_condition c ∷ as_conditions cs

or_false : (b : Bool) → (b || false) ≡ b
or_false true = refl
or_false false = refl

all_as : (w : ℕ) (cs : List base.Condition) → list_all (meets w) (as_conditions cs) ≡ list_all (base.meets w) cs
all_as w [] = refl
all_as w (c ∷ cs) = rw (or_false (base.meets w c), all_as w cs) refl

base_apart : list_all (λ (r : Row). list_all (λ (s : base.Row). exclude r.conditions (as_conditions s.conditions)) rows) extension_rows ≡ true
unfolding rows upper_rows jump_rows branch_rows load_rows store_rows imm_rows imm_w_rows reg_rows reg_w_rows atomic_rows_of atomic_rows fence_rows system_rows extension_rows table.load_rows table.store_rows table.block_rows table.imm_rows table.imm_w_rows table.reg_rows table.reg_w_rows table.amo_rows table.system_rows table.fused_rows table.half_rows table.additional_rows table.vector_rows table.vector_crypto_rows table.vendor_rows
base_apart = refl

integers_apart : list_all (λ (r : Row). list_all (λ (s : base.Row). exclude r.conditions (as_conditions s.conditions)) rows) integer_float_rows ≡ true
unfolding rows upper_rows jump_rows branch_rows load_rows store_rows imm_rows imm_w_rows reg_rows reg_w_rows atomic_rows_of atomic_rows fence_rows system_rows integer_float_rows integer_fused_rows integer_operation_rows integer_half_rows integer_scalar_rows
integers_apart = refl

no_base_row : (w : ℕ) (rs : List Row) (i : ℕ) (r : Row) → list_all (λ (r : Row). list_all (λ (s : base.Row). exclude r.conditions (as_conditions s.conditions)) rows) rs ≡ true → slice_get rs i ≡ Some r → holds r w ≡ true → base.instruction w ≡ None
no_base_row w rs i r apart at held =
    let from_base = passes_at (λ (r : Row). list_all (λ (s : base.Row). exclude r.conditions (as_conditions s.conditions)) rows) rs i r at apart in
    (none_where_no_row_holds w).1 (λ k s there. sym (all_as w s.conditions)
    ∙ excluded w r.conditions (as_conditions s.conditions) (passes_at (λ (s : base.Row). exclude r.conditions (as_conditions s.conditions)) rows k s there from_base) held)

-- ---- rows of the float table as conditions

abbrev float_memory : ℕ → List Condition
float_memory code = opcode_is code ∷ funct3_in (2 ∷ 3 ∷ []) ∷ []

abbrev float_fused : ℕ → List Condition
float_fused code = opcode_is code ∷ bits 26 25 (0 ∷ 1 ∷ []) ∷ rounds ∷ []

abbrev float_operation : List ℕ → List Condition → List Condition
float_operation functions others = opcode_is 0x53 ∷ funct7_in functions ∷ others

abbrev float_conditions : List (List Condition)
float_conditions =
    float_memory 0x07 ∷ float_memory 0x27 ∷
    float_fused 0x43 ∷ float_fused 0x47 ∷ float_fused 0x4B ∷ float_fused 0x4F ∷
    float_operation (0x00 ∷ 0x01 ∷ 0x04 ∷ 0x05 ∷ 0x08 ∷ 0x09 ∷ 0x0C ∷ 0x0D ∷ []) (rounds ∷ []) ∷
    float_operation (0x2C ∷ 0x2D ∷ []) (rs2_in (0 ∷ []) ∷ rounds ∷ []) ∷
    float_operation (0x20 ∷ []) (rs2_in (1 ∷ []) ∷ rounds ∷ []) ∷
    float_operation (0x21 ∷ []) (rs2_in (0 ∷ []) ∷ rounds ∷ []) ∷
    float_operation (0x10 ∷ 0x11 ∷ []) (funct3_in (0 ∷ 1 ∷ 2 ∷ []) ∷ []) ∷
    float_operation (0x14 ∷ 0x15 ∷ []) (funct3_in (0 ∷ 1 ∷ []) ∷ []) ∷
    float_operation (0x50 ∷ 0x51 ∷ []) (funct3_in (0 ∷ 1 ∷ 2 ∷ []) ∷ []) ∷
    float_operation (0x60 ∷ 0x61 ∷ []) (rs2_in (0 ∷ 1 ∷ 2 ∷ 3 ∷ []) ∷ rounds ∷ []) ∷
    float_operation (0x70 ∷ 0x71 ∷ []) (rs2_in (0 ∷ []) ∷ funct3_in (0 ∷ 1 ∷ []) ∷ []) ∷
    float_operation (0x68 ∷ 0x69 ∷ []) (rs2_in (0 ∷ 1 ∷ 2 ∷ 3 ∷ []) ∷ rounds ∷ []) ∷
    float_operation (0x78 ∷ 0x79 ∷ []) (rs2_in (0 ∷ []) ∷ funct3_in (0 ∷ []) ∷ []) ∷ []

float_apart : list_all (λ (r : Row). list_all (exclude r.conditions) float_conditions) extension_rows ≡ true
unfolding extension_rows table.load_rows table.store_rows table.block_rows table.imm_rows table.imm_w_rows table.reg_rows table.reg_w_rows table.amo_rows table.system_rows table.fused_rows table.half_rows table.additional_rows table.vector_rows table.vector_crypto_rows table.vendor_rows
float_apart = refl

and_true : (b : Bool) → (b && true) ≡ b
and_true true = refl
and_true false = refl

and_and : (a b c : Bool) → (a && b && c) ≡ (a && (b && c))
and_and true b c = refl
and_and false b c = refl

-- row by row, the float table's tests are these conditions
abbrev Follow : List float.Row → List (List Condition) → ℕ → Type 0
Follow [] [] w = Unit {0}
Follow [] (cs ∷ css) w = ⊥
Follow (r ∷ rs) [] w = ⊥
Follow (r ∷ rs) (cs ∷ css) w = (r.holds w ≡ list_all (meets w) cs) × Follow rs css w

follow : (w : ℕ) → Follow float_rows float_conditions w
unfolding float_rows memory_rows fused_rows operation_rows
follow w = (simp (or_false, and_true, and_and), (simp (or_false, and_true, and_and), (simp (or_false, and_true, and_and), (simp (or_false, and_true, and_and), (simp (or_false, and_true, and_and), (simp (or_false, and_true, and_and), (simp (or_false, and_true, and_and), (simp (or_false, and_true, and_and), (simp (or_false, and_true, and_and), (simp (or_false, and_true, and_and), (simp (or_false, and_true, and_and), (simp (or_false, and_true, and_and), (simp (or_false, and_true, and_and), (simp (or_false, and_true, and_and), (simp (or_false, and_true, and_and), (simp (or_false, and_true, and_and), (simp (or_false, and_true, and_and), tt)))))))))))))))))

abbrev AllFail : List float.Row → ℕ → Type 0
AllFail [] w = Unit {0}
AllFail (r ∷ rs) w = (r.holds w ≡ false) × AllFail rs w

fail : (w : ℕ) (cs : List Condition) → list_all (meets w) cs ≡ true → (rs : List float.Row) (css : List (List Condition)) → Follow rs css w → list_all (exclude cs) css ≡ true → AllFail rs w
fail w cs m [] css follows apart = tt
fail w cs m (r ∷ rs) [] follows apart = absurd follows
fail w cs m (r ∷ rs) (ds ∷ css) follows apart = (
  follows.0 ∙ excluded w cs ds (and_left (exclude cs ds) (list_all (exclude cs) css) apart) m,
  fail w cs m rs css follows.1 (and_right (exclude cs ds) (list_all (exclude cs) css) apart),
)

no_float : (w : ℕ) (rs : List float.Row) → AllFail rs w → float.first_meaning rs w ≡ None
no_float w [] fails = refl
no_float w (r ∷ rs) fails = rw (fails.0) (no_float w rs fails.1)

-- ---- the tables

other_apart : (e : Extensions) (w : ℕ) (found : Insn) → extension_instruction e w ≡ Some found → (base.instruction w ≡ None) × (float_instruction w ≡ None)
unfolding extension_instruction float_instruction
other_apart e w found is =
    let from = comes_from e extension_rows w found is in
    let r = from.1 in
    let from_float = passes_at (λ (r : Row). list_all (exclude r.conditions) float_conditions) extension_rows from.0 r from.2 float_apart in (
      no_base_row w extension_rows from.0 r base_apart from.2 from.3,
      no_float w float_rows (fail w r.conditions from.3 float_rows float_conditions (follow w) from_float),
    )

integer_apart : (e : Extensions) (w : ℕ) (found : Insn) → integer_float e w ≡ Some found → base.instruction w ≡ None
unfolding integer_float
integer_apart e w found is =
    let from = comes_from e integer_float_rows w found is in
    no_base_row w integer_float_rows from.0 from.1 integers_apart from.2 from.3

step : (e : Extensions) (w : ℕ) (found : Insn) (o : Option Insn) → integer_float e w ≡ o → option_or o (extension_instruction e w) ≡ Some found → (base.instruction w ≡ None) × (e.zfinx ≡ false → float_instruction w ≡ None)
step e w found None none is = let apart = other_apart e w found is in (apart.0, λ off. apart.1)
step e w found (Some i) some is = (integer_apart e w i some, λ off. let none = not_named e w off in absurd (cc))

pub tables_are_apart : TablesAreApart
tables_are_apart e w found is = step e w found (integer_float e w) refl is
