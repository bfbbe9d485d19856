-- No word but those of two opcodes is a LUI or an AUIPC.
use Rattle.std.proofs.Common.{◌≡◌, ℕ, ◌+◌, ◌-◌, ◌≤◌, Bool, true, false, List, [], ◌∷◌, Some, None, cond, leb, eqb, refl, sym, ap, ◌∙◌, inl, inr}
use Rattle.std.specs.List.{list_any}
use Rattle.std.specs.Option.{option_and_then}
use Rattle.std.proofs.lemmas.Bool.{cases_Bool, or_parts, cond-true, le-leb}
use Rattle.elf_image.specs.Code.{section_start, word_at}
use Rattle.rv_decode.specs.Fields.{opcode}
use Rattle.rv_decode.specs.Table.{Row, holds, opcode_is, first_meaning, rows, upper_rows, jump_rows, branch_rows, load_rows, store_rows, imm_rows, imm_w_rows, reg_rows, reg_w_rows, atomic_rows_of, atomic_rows, fence_rows, system_rows, instruction}
use Rattle.rv_decode.specs.declared.instructions.Insn.{Insn}
use Rattle.rv_decode.specs.declared.instructions.Insn.TheVariants as insns
use Rattle.rv_decode.proofs.Narrowing.{without, first_meaning-without}
use Rattle.rv_flow.specs.Raw.{upper_of, upper_before, word_before}
use Rattle.rv_flow.specs.Inner.{is_upper}

-- an instruction sets the upper part of a register
abbrev sets_upper : Insn → Bool
sets_upper (insns.Lui rd imm) = true
sets_upper (insns.Auipc rd imm) = true
sets_upper _ = false

leaves_none : (at r : ℕ) (i : Insn) → sets_upper i ≡ false → upper_of at r i ≡ None
leaves_none at r (insns.Lui rd imm) h = cc
leaves_none at r (insns.Auipc rd imm) h = cc
leaves_none at r _ h = refl

-- rows of which none means such an instruction
none_among : (w at r : ℕ) (rs : List Row) → list_any (λ (row : Row). sets_upper (row.meaning w)) rs ≡ false → option_and_then (upper_of at r) (first_meaning rs w) ≡ None
none_among w at r [] h = refl
none_among w at r (row ∷ rs) h =
    let parts = or_parts (sets_upper (row.meaning w)) (list_any (λ (row : Row). sets_upper (row.meaning w)) rs) h in
    elim (cases_Bool (holds row w)) [
      | inl met ↦ rw met (leaves_none at r (row.meaning w) parts.0)
      | inr unmet ↦ rw unmet (none_among w at r rs parts.1)
    ]

-- a word of another opcode leaves nothing in a register
not_upper : (w at r : ℕ) → is_upper w ≡ false → option_and_then (upper_of at r) (instruction w) ≡ None
unfolding instruction rows upper_rows jump_rows branch_rows load_rows store_rows imm_rows imm_w_rows reg_rows reg_w_rows atomic_rows_of atomic_rows fence_rows system_rows
not_upper w at r h =
    let parts = or_parts (eqb (opcode w) 0x37) (eqb (opcode w) 0x17) h in
    ap (option_and_then (upper_of at r))
    (sym (first_meaning-without w (opcode_is 0x37) parts.0 rows)
    ∙ sym (first_meaning-without w (opcode_is 0x17) parts.1 (without (opcode_is 0x37) rows)))
    ∙ none_among w at r (without (opcode_is 0x17) (without (opcode_is 0x37) rows)) refl

-- nor does such a word right before an address
pub no_upper_before : (bytes : List ℕ) (a r start w : ℕ) → section_start bytes a ≡ Some start → start + 4 ≤ a → word_at bytes (a - 4) ≡ Some w → is_upper w ≡ false → upper_before bytes a r ≡ None
no_upper_before bytes a r start w begins fits there other =
    let before : word_before bytes a ≡ Some w =
    ap (option_and_then (λ s. cond (leb (s + 4) a) (word_at bytes (a - 4)) None)) begins
    ∙ cond-true (leb (start + 4) a) _ _ (le-leb (start + 4) a fits)
    ∙ there in
    ap (λ o. option_and_then (upper_of (a - 4) r) (option_and_then instruction o)) before ∙ not_upper w (a - 4) r other
