-- What the extensions that are named add: an instruction of them goes straight on, and is none of RV64GC.
use Rattle.std.proofs.Common.{◌≡◌, ◌≢◌, ℕ, zero, suc, ◌+◌, ◌<◌, ◌≤◌, ◌==◌, ◌&&◌, ◌||◌, ◌⊎◌, inl, inr, not, Bool, true, false, cond, if◌then◌else◌, is_some, List, [], ◌∷◌, Option, Some, None, refl, sym, ap, ◌∙◌, arith}
use Rattle.std.specs.List.{list_all}
use Rattle.std.proofs.lemmas.Bool.{cases_Bool}
use Rattle.std.specs.Option.{option_or}
use Rattle.elf_image.specs.declared.extensions.Extensions.{Extensions}
use Rattle.rv_decode.specs.Fields.{opcode, funct3, funct7}
use Rattle.rv_decode.specs.declared.instructions.Insn.{Insn}
use Rattle.rv_extensions.specs.Rows.{Row, holds, first_meaning}
use Rattle.rv_extensions.specs.Table.{extension_instruction, extension_rows, load_rows, store_rows, block_rows, imm_rows, imm_w_rows, reg_rows, reg_w_rows, amo_rows, system_rows, fused_rows, half_rows, additional_rows, vector_rows, vector_crypto_rows, vendor_rows}
use Rattle.rv_extensions.specs.IntegerFloats.{integer_float, integer_float_rows, integer_fused_rows, integer_operation_rows, integer_half_rows, integer_scalar_rows, named_instruction}
use Rattle.rv_extensions.specs.Registers.{vector_memory, vector_result}
use Rattle.rv_extensions.proofs.Apart.{and_left, and_right}
use Rattle.rv_extensions.proofs.ByOpcode.{vector_cases_00, vector_cases_01, vector_cases_02, vector_cases_03, vector_cases_04, vector_cases_05, vector_cases_06, length_is, vector_crypto_cases, vendor_is}
use Rattle.rv_extensions.proofs.IntegerBy.{scalar_off}
use Rattle.rv_extensions.proofs.TablesApart.{tables_are_apart}
use Rattle.rv_decode.specs.Table.{instruction}
use Rattle.rv_float.specs.Table.{float_instruction, is_among}
use Rattle.rv_flow.specs.Placed.{float_insn, rv64gc_insn, word_insn}
use Rattle.rv_flow.specs.Inner.{goes_on, goes_on_behind}
use Rattle.rv_flow.proofs.Told.{no_floats, no_float_03, no_float_0B, no_float_13, no_float_23, no_float_2B, no_float_33, no_float_57, no_float_5B, no_float_63, no_float_67, no_float_6B, no_float_6F, no_float_77, no_float_7B, no_load, no_store, no_base_insn, float_load_goes, float_store_goes}
use Rattle.rv_flow.proofs.Told.{lui_goes, auipc_goes, jal_stops, jalr_stops, branch_stops, load_goes, store_goes, store_none, addiw_goes}

-- ---- each row's meaning goes straight on

rows_go : (w : ℕ) → list_all (λ (r : Row). goes_on (r.meaning w)) extension_rows ≡ true
unfolding extension_rows load_rows store_rows block_rows imm_rows imm_w_rows reg_rows reg_w_rows amo_rows system_rows fused_rows half_rows additional_rows vector_rows vector_crypto_rows vendor_rows vector_memory vector_result
rows_go w = refl

integers_go : (w : ℕ) → list_all (λ (r : Row). goes_on (r.meaning w)) integer_float_rows ≡ true
unfolding integer_float_rows integer_fused_rows integer_operation_rows integer_half_rows integer_scalar_rows
integers_go w = refl

go_step : (b : Bool) (i found : Insn) (later : Option Insn) → goes_on i ≡ true → (later ≡ Some found → goes_on found ≡ true) → cond b (Some i) later ≡ Some found → goes_on found ≡ true
go_step true i found later here rest is = let same : i ≡ found = cc in ap goes_on (sym same) ∙ here
go_step false i found later here rest is = rest is

each_goes : (e : Extensions) (rs : List Row) (w : ℕ) (found : Insn) → list_all (λ (r : Row). goes_on (r.meaning w)) rs ≡ true → first_meaning e rs w ≡ Some found → goes_on found ≡ true
each_goes e [] w found go is = absurd (cc)
each_goes e (r ∷ rs) w found go is =
    go_step (holds r w && r.named e) (r.meaning w) found (first_meaning e rs w)
    (and_left (goes_on (r.meaning w)) (list_all (λ (r : Row). goes_on (r.meaning w)) rs) go)
    (each_goes e rs w found (and_right (goes_on (r.meaning w)) (list_all (λ (r : Row). goes_on (r.meaning w)) rs) go)) is

other_goes : (e : Extensions) (w : ℕ) (found : Insn) → extension_instruction e w ≡ Some found → goes_on found ≡ true
unfolding extension_instruction
other_goes e w found = each_goes e extension_rows w found (rows_go w)

integer_goes : (e : Extensions) (w : ℕ) (found : Insn) → integer_float e w ≡ Some found → goes_on found ≡ true
unfolding integer_float
integer_goes e w found = each_goes e integer_float_rows w found (integers_go w)

named_goes : (e : Extensions) (w : ℕ) (found : Insn) (o : Option Insn) → integer_float e w ≡ o → option_or o (extension_instruction e w) ≡ Some found → goes_on found ≡ true
named_goes e w found None none is = other_goes e w found is
named_goes e w found (Some i) some is = integer_goes e w found (some ∙ is)

-- ---- a word by both

or_false : (b : Bool) → (b || false) ≡ b
or_false true = refl
or_false false = refl

step : (g x : Option Insn) → ((i : Insn) → x ≡ Some i → (g ≡ None) × (goes_on i ≡ true)) → goes_on_behind (option_or g x) ≡ (goes_on_behind g || is_some x)
step None None facts = refl
step None (Some j) facts = (facts j refl).1
step (Some i) None facts = sym (or_false (goes_on i))
step (Some i) (Some j) facts = let none = (facts j refl).0 in absurd (cc)

no_rv64gc : (e : Extensions) (w : ℕ) (found : Insn) → named_instruction e w ≡ Some found → rv64gc_insn e w ≡ None
no_rv64gc e w found is = let apart = tables_are_apart e w found is in elim (cases_Bool e.zfinx) [
  | inl on ↦ rw (apart.0, on) refl
  | inr off ↦ rw (apart.0, off) (apart.1 off)
]

either : (e : Extensions) (w : ℕ) → goes_on_behind (word_insn e w) ≡ (goes_on_behind (rv64gc_insn e w) || is_some (named_instruction e w))
either e w = step (rv64gc_insn e w) (named_instruction e w) (λ found is. (no_rv64gc e w found is, named_goes e w found (integer_float e w) refl is))

-- a word that the float table does not have, and one that the base table does not have
based : (o : Option Insn) → option_or o None ≡ o
based None = refl
based (Some i) = refl

pub with_base : (e : Extensions) (w : ℕ) → float_instruction w ≡ None → goes_on_behind (word_insn e w) ≡ (goes_on_behind (instruction w) || is_some (named_instruction e w))
with_base e w none = either e w ∙ ap (λ o. goes_on_behind (option_or (instruction w) o) || is_some (named_instruction e w)) (no_floats e w none) ∙ ap (λ o. goes_on_behind o || is_some (named_instruction e w)) (based (instruction w))

without_base : (e : Extensions) (w : ℕ) → instruction w ≡ None → goes_on_behind (word_insn e w) ≡ (goes_on_behind (float_insn e w) || is_some (named_instruction e w))
without_base e w none = either e w ∙ ap (λ o. goes_on_behind (option_or o (float_insn e w)) || is_some (named_instruction e w)) none

-- what goes on in the base table
goes_first : (o f x : Option Insn) → goes_on_behind o ≡ true → goes_on_behind (option_or (option_or o f) x) ≡ true
goes_first None f x goes = cc
goes_first (Some i) f x goes = goes

still_goes : (e : Extensions) (w : ℕ) → goes_on_behind (instruction w) ≡ true → goes_on_behind (word_insn e w) ≡ true
still_goes e w goes = goes_first (instruction w) (float_insn e w) (named_instruction e w) goes

-- what no extension adds to
unchanged : (e : Extensions) (w : ℕ) → float_instruction w ≡ None → named_instruction e w ≡ None → goes_on_behind (word_insn e w) ≡ goes_on_behind (instruction w)
unchanged e w float none = with_base e w float ∙ rw none (or_false _)

pub no_extension_03 : (e : Extensions) (w : ℕ) → opcode w ≡ 0x03 → named_instruction e w ≡ None
unfolding extension_instruction extension_rows load_rows store_rows block_rows imm_rows imm_w_rows reg_rows reg_w_rows amo_rows system_rows fused_rows half_rows additional_rows vector_rows vector_crypto_rows vendor_rows integer_float integer_float_rows integer_fused_rows integer_operation_rows integer_half_rows integer_scalar_rows
no_extension_03 e w is = rw is refl

pub no_extension_23 : (e : Extensions) (w : ℕ) → opcode w ≡ 0x23 → named_instruction e w ≡ None
unfolding extension_instruction extension_rows load_rows store_rows block_rows imm_rows imm_w_rows reg_rows reg_w_rows amo_rows system_rows fused_rows half_rows additional_rows vector_rows vector_crypto_rows vendor_rows integer_float integer_float_rows integer_fused_rows integer_operation_rows integer_half_rows integer_scalar_rows
no_extension_23 e w is = rw is refl

pub no_extension_63 : (e : Extensions) (w : ℕ) → opcode w ≡ 0x63 → named_instruction e w ≡ None
unfolding extension_instruction extension_rows load_rows store_rows block_rows imm_rows imm_w_rows reg_rows reg_w_rows amo_rows system_rows fused_rows half_rows additional_rows vector_rows vector_crypto_rows vendor_rows integer_float integer_float_rows integer_fused_rows integer_operation_rows integer_half_rows integer_scalar_rows
no_extension_63 e w is = rw is refl

pub no_extension_67 : (e : Extensions) (w : ℕ) → opcode w ≡ 0x67 → named_instruction e w ≡ None
unfolding extension_instruction extension_rows load_rows store_rows block_rows imm_rows imm_w_rows reg_rows reg_w_rows amo_rows system_rows fused_rows half_rows additional_rows vector_rows vector_crypto_rows vendor_rows integer_float integer_float_rows integer_fused_rows integer_operation_rows integer_half_rows integer_scalar_rows
no_extension_67 e w is = rw is refl

pub no_extension_6F : (e : Extensions) (w : ℕ) → opcode w ≡ 0x6F → named_instruction e w ≡ None
unfolding extension_instruction extension_rows load_rows store_rows block_rows imm_rows imm_w_rows reg_rows reg_w_rows amo_rows system_rows fused_rows half_rows additional_rows vector_rows vector_crypto_rows vendor_rows integer_float integer_float_rows integer_fused_rows integer_operation_rows integer_half_rows integer_scalar_rows
no_extension_6F e w is = rw is refl

pub no_extension_2B : (e : Extensions) (w : ℕ) → opcode w ≡ 0x2B → named_instruction e w ≡ None
unfolding extension_instruction extension_rows load_rows store_rows block_rows imm_rows imm_w_rows reg_rows reg_w_rows amo_rows system_rows fused_rows half_rows additional_rows vector_rows vector_crypto_rows vendor_rows integer_float integer_float_rows integer_fused_rows integer_operation_rows integer_half_rows integer_scalar_rows
no_extension_2B e w is = rw is refl

pub no_extension_5B : (e : Extensions) (w : ℕ) → opcode w ≡ 0x5B → named_instruction e w ≡ None
unfolding extension_instruction extension_rows load_rows store_rows block_rows imm_rows imm_w_rows reg_rows reg_w_rows amo_rows system_rows fused_rows half_rows additional_rows vector_rows vector_crypto_rows vendor_rows integer_float integer_float_rows integer_fused_rows integer_operation_rows integer_half_rows integer_scalar_rows
no_extension_5B e w is = rw is refl

pub no_extension_6B : (e : Extensions) (w : ℕ) → opcode w ≡ 0x6B → named_instruction e w ≡ None
unfolding extension_instruction extension_rows load_rows store_rows block_rows imm_rows imm_w_rows reg_rows reg_w_rows amo_rows system_rows fused_rows half_rows additional_rows vector_rows vector_crypto_rows vendor_rows integer_float integer_float_rows integer_fused_rows integer_operation_rows integer_half_rows integer_scalar_rows
no_extension_6B e w is = rw is refl

pub no_extension_7B : (e : Extensions) (w : ℕ) → opcode w ≡ 0x7B → named_instruction e w ≡ None
unfolding extension_instruction extension_rows load_rows store_rows block_rows imm_rows imm_w_rows reg_rows reg_w_rows amo_rows system_rows fused_rows half_rows additional_rows vector_rows vector_crypto_rows vendor_rows integer_float integer_float_rows integer_fused_rows integer_operation_rows integer_half_rows integer_scalar_rows
no_extension_7B e w is = rw is refl

-- no float in integer registers has these
no_integer_0B : (e : Extensions) (w : ℕ) → opcode w ≡ 0x0B → integer_float e w ≡ None
unfolding integer_float integer_float_rows integer_fused_rows integer_operation_rows integer_half_rows integer_scalar_rows
no_integer_0B e w is = rw is refl

no_integer_77 : (e : Extensions) (w : ℕ) → opcode w ≡ 0x77 → integer_float e w ≡ None
unfolding integer_float integer_float_rows integer_fused_rows integer_operation_rows integer_half_rows integer_scalar_rows
no_integer_77 e w is = rw is refl

-- ---- by the opcode

pub lui_goes_on : (e : Extensions) (w : ℕ) → opcode w ≡ 0x37 → goes_on_behind (word_insn e w) ≡ true
lui_goes_on e w h = still_goes e w (lui_goes w h)

pub auipc_goes_on : (e : Extensions) (w : ℕ) → opcode w ≡ 0x17 → goes_on_behind (word_insn e w) ≡ true
auipc_goes_on e w h = still_goes e w (auipc_goes w h)

pub jal_never : (e : Extensions) (w : ℕ) → opcode w ≡ 0x6F → goes_on_behind (word_insn e w) ≡ false
jal_never e w h = unchanged e w (no_float_6F w h) (no_extension_6F e w h) ∙ jal_stops w h

pub jalr_never : (e : Extensions) (w : ℕ) → opcode w ≡ 0x67 → goes_on_behind (word_insn e w) ≡ false
jalr_never e w h = unchanged e w (no_float_67 w h) (no_extension_67 e w h) ∙ jalr_stops w h

pub branch_never : (e : Extensions) (w : ℕ) → opcode w ≡ 0x63 → goes_on_behind (word_insn e w) ≡ false
branch_never e w h = unchanged e w (no_float_63 w h) (no_extension_63 e w h) ∙ branch_stops w h

pub load_goes_on : (e : Extensions) (w : ℕ) → opcode w ≡ 0x03 → goes_on_behind (word_insn e w) ≡ not (funct3 w == 7)
load_goes_on e w h = unchanged e w (no_float_03 w h) (no_extension_03 e w h) ∙ load_goes w h

pub store_goes_on : (e : Extensions) (w : ℕ) → opcode w ≡ 0x23 → funct3 w < 4 → goes_on_behind (word_insn e w) ≡ true
store_goes_on e w h low = still_goes e w (store_goes w h low)

pub store_never : (e : Extensions) (w : ℕ) → opcode w ≡ 0x23 → 4 ≤ funct3 w → goes_on_behind (word_insn e w) ≡ false
store_never e w h high = unchanged e w (no_float_23 w h) (no_extension_23 e w h) ∙ store_none w h high

pub addiw_goes_on : (e : Extensions) (w : ℕ) → opcode w ≡ 0x1B → funct3 w ≡ 0 → goes_on_behind (word_insn e w) ≡ true
addiw_goes_on e w h plain = still_goes e w (addiw_goes w h plain)

pub imm_either : (e : Extensions) (w : ℕ) → opcode w ≡ 0x13 → goes_on_behind (word_insn e w) ≡ (goes_on_behind (instruction w) || is_some (named_instruction e w))
imm_either e w h = with_base e w (no_float_13 w h)

pub op_either : (e : Extensions) (w : ℕ) → opcode w ≡ 0x33 → goes_on_behind (word_insn e w) ≡ (goes_on_behind (instruction w) || is_some (named_instruction e w))
op_either e w h = with_base e w (no_float_33 w h)

pub load_either : (e : Extensions) (w : ℕ) → opcode w ≡ 0x07 → goes_on_behind (word_insn e w) ≡ ((not e.zfinx && is_among (2 ∷ 3 ∷ []) (funct3 w)) || is_some (named_instruction e w))
load_either e w h = without_base e w (no_load w h) ∙ ap (λ b. b || is_some (named_instruction e w)) (float_load_goes e w h)

pub store_either : (e : Extensions) (w : ℕ) → opcode w ≡ 0x27 → goes_on_behind (word_insn e w) ≡ ((not e.zfinx && is_among (2 ∷ 3 ∷ []) (funct3 w)) || is_some (named_instruction e w))
store_either e w h = without_base e w (no_store w h) ∙ ap (λ b. b || is_some (named_instruction e w)) (float_store_goes e w h)

-- an opcode that only extensions have
only_named : (e : Extensions) (w : ℕ) → float_instruction w ≡ None → instruction w ≡ None → goes_on_behind (word_insn e w) ≡ is_some (named_instruction e w)
only_named e w float base = with_base e w float ∙ ap (λ o. goes_on_behind o || is_some (named_instruction e w)) base

pub custom_never : (e : Extensions) (w : ℕ) → (opcode w ≡ 0x2B) ⊎ ((opcode w ≡ 0x5B) ⊎ ((opcode w ≡ 0x7B) ⊎ (opcode w ≡ 0x6B))) → goes_on_behind (word_insn e w) ≡ false
custom_never e w (inl h) = only_named e w (no_float_2B w h) (no_base_insn w (inr (inl h))) ∙ ap is_some (no_extension_2B e w h)
custom_never e w (inr (inl h)) = only_named e w (no_float_5B w h) (no_base_insn w (inr (inr (inl h)))) ∙ ap is_some (no_extension_5B e w h)
custom_never e w (inr (inr (inl h))) = only_named e w (no_float_7B w h) (no_base_insn w (inr (inr (inr (inl h))))) ∙ ap is_some (no_extension_7B e w h)
custom_never e w (inr (inr (inr h))) = only_named e w (no_float_6B w h) (no_base_insn w (inr (inr (inr (inr (inr (inl h))))))) ∙ ap is_some (no_extension_6B e w h)

-- ---- vectors and a vendor: each word of their opcodes is an instruction

named : (o : Option Insn) (b : Bool) (i : Insn) → o ≡ cond b (Some i) None → is_some o ≡ b
named o true i is = ap is_some is
named o false i is = ap is_some is

pub vendor_goes : (e : Extensions) (w : ℕ) → opcode w ≡ 0x0B → goes_on_behind (word_insn e w) ≡ e.xthead
vendor_goes e w h =
    only_named e w (no_float_0B w h) (no_base_insn w (inl h))
    ∙ ap (λ o. is_some (option_or o (extension_instruction e w))) (no_integer_0B e w h)
    ∙ named _ e.xthead _ (vendor_is e w h)

at : (e : Extensions) (w f : ℕ) → f < 8 → opcode w ≡ 0x57 → funct3 w ≡ f → is_some (extension_instruction e w) ≡ e.vector
at e w zero below code is = named _ e.vector _ (vector_cases_00 e w code is)
at e w (suc zero) below code is = named _ e.vector _ (vector_cases_01 e w code is)
at e w (suc (suc zero)) below code is = named _ e.vector _ (vector_cases_02 e w code is)
at e w (suc (suc (suc zero))) below code is = named _ e.vector _ (vector_cases_03 e w code is)
at e w (suc (suc (suc (suc zero)))) below code is = named _ e.vector _ (vector_cases_04 e w code is)
at e w (suc (suc (suc (suc (suc zero))))) below code is = named _ e.vector _ (vector_cases_05 e w code is)
at e w (suc (suc (suc (suc (suc (suc zero)))))) below code is = named _ e.vector _ (vector_cases_06 e w code is)
at e w (suc (suc (suc (suc (suc (suc (suc zero))))))) below code is = named _ e.vector _ (length_is e w code is)
at e w (suc (suc (suc (suc (suc (suc (suc (suc n)))))))) below code is = absurd (omega (arith, below))

-- a scalar of floats in integer registers asks for vectors
scalars : (o x : Option Insn) (b : Bool) → (b ≡ false → o ≡ None) → is_some x ≡ b → is_some (option_or o x) ≡ b
scalars None x b off is = is
scalars (Some i) x true off is = refl
scalars (Some i) x false off is = let none = off refl in absurd (cc)

pub vector_goes : (e : Extensions) (w : ℕ) → opcode w ≡ 0x57 → goes_on_behind (word_insn e w) ≡ e.vector
vector_goes e w h =
    only_named e w (no_float_57 w h) (no_base_insn w (inr (inr (inr (inr (inl h))))))
    ∙ scalars (integer_float e w) (extension_instruction e w) e.vector (scalar_off e w h) (at e w (funct3 w) (omega arith) h refl)

pub vector_crypto_goes : (e : Extensions) (w : ℕ) → opcode w ≡ 0x77 → goes_on_behind (word_insn e w) ≡ e.vector
vector_crypto_goes e w h =
    only_named e w (no_float_77 w h) (no_base_insn w (inr (inr (inr (inr (inr (inr h)))))))
    ∙ ap (λ o. is_some (option_or o (extension_instruction e w))) (no_integer_77 e w h)
    ∙ named _ e.vector _ (vector_crypto_cases e w h)
