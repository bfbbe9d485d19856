-- The laws of the two tables, by looking at each pair of rows.
use Rattle.std.proofs.Common.{◌≡◌, ℕ, true, None, refl}
use Rattle.rv_extensions.specs.Table.{extension_rows, extension_instruction, load_rows, store_rows, block_rows, imm_rows, imm_w_rows, reg_rows, reg_w_rows, amo_rows, system_rows, fused_rows, half_rows, additional_rows, vector_rows, vector_crypto_rows, vendor_rows}
use Rattle.rv_extensions.specs.IntegerFloats.{integer_float, integer_float_rows, integer_fused_rows, integer_operation_rows, integer_half_rows, integer_scalar_rows}
use Rattle.rv_extensions.specs.Forms.{extension_forms, extension_form, memory_forms, arithmetic_forms, may_be_forms, stack_forms}
use Rattle.rv_extensions.specs.Laws.{AtMostOneRowHolds, AtMostOneFormHolds, UnnamedIsNone, unnamed}
use Rattle.rv_extensions.proofs.Apart.{all_apart, one_place, no_meaning}

rows_apart : all_apart extension_rows ≡ true
unfolding extension_rows load_rows store_rows block_rows imm_rows imm_w_rows reg_rows reg_w_rows amo_rows system_rows fused_rows half_rows additional_rows vector_rows vector_crypto_rows vendor_rows
rows_apart = refl

floats_apart : all_apart integer_float_rows ≡ true
unfolding integer_float_rows integer_fused_rows integer_operation_rows integer_half_rows integer_scalar_rows
floats_apart = refl

forms_apart : all_apart extension_forms ≡ true
unfolding extension_forms memory_forms arithmetic_forms may_be_forms stack_forms
forms_apart = refl

pub at_most_one_row_holds : AtMostOneRowHolds
at_most_one_row_holds = (one_place extension_rows rows_apart, one_place integer_float_rows floats_apart)

pub at_most_one_form_holds : AtMostOneFormHolds
at_most_one_form_holds = one_place extension_forms forms_apart

no_float : (w : ℕ) → integer_float unnamed w ≡ None
unfolding integer_float integer_float_rows integer_fused_rows integer_operation_rows integer_half_rows integer_scalar_rows
no_float w = no_meaning unnamed integer_float_rows refl w

pub unnamed_is_none : UnnamedIsNone
unfolding extension_instruction extension_form extension_rows load_rows store_rows block_rows imm_rows imm_w_rows reg_rows reg_w_rows amo_rows system_rows fused_rows half_rows additional_rows vector_rows vector_crypto_rows vendor_rows extension_forms memory_forms arithmetic_forms may_be_forms stack_forms
unnamed_is_none w = (rw (no_float w) (no_meaning unnamed extension_rows refl w), no_meaning unnamed extension_forms refl w)
