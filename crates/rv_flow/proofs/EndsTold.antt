-- What an instruction's opcode tells of where it sends control.
use Rattle.std.proofs.Common.{◌≡◌, ◌≢◌, ℕ, zero, suc, ◌+◌, ◌-◌, ◌<◌, ◌%◌, ◌^◌, cond, ltb, List, [], ◌∷◌, Option, Some, pos, refl, ap, ◌∙◌, arith}
use Rattle.std.specs.Option.{option_or, option_map_or}
use Rattle.std.proofs.lemmas.Bool.{ne_eqb, cond_both}
use Rattle.std.proofs.lemmas.Bool.Decides.{nat_tests}
use Rattle.elf_image.specs.declared.extensions.Extensions.{Extensions}
use Rattle.rv_decode.specs.Fields.{opcode, rd, rs1, funct3, i_immediate, j_offset, b_offset, sign_extended}
use Rattle.rv_decode.specs.Table.{instruction}
use Rattle.rv_decode.specs.declared.instructions.Insn.{Insn}
use Rattle.rv_decode.proofs.ByOpcode.{jal_is, jalr_cases, branch_cases}
use Rattle.rv_decode.proofs.ByFields.{jalr_is}
use Rattle.rv_extensions.specs.IntegerFloats.{named_instruction}
use Rattle.rv_extensions.specs.Forms.{extension_form}
use Rattle.rvc_expand.specs.Bits.{field, placed}
use Rattle.rvc_expand.specs.Halfword.{first_register, second_register, first_popular, jump_offset, branch_offset}
use Rattle.rvc_expand.specs.Instructions.{jal, jalr, beq, bne}
use Rattle.rvc_expand.specs.Table.{expansion, quadrant_1, quadrant_2}
use Rattle.rvc_expand.proofs.Quadrants.{expansion-quadrant_1, expansion-quadrant_2}
use Rattle.rv_flow.specs.declared.raw.RawFlow.{RawFlow}
use Rattle.rv_flow.specs.declared.raw.RawFlow.TheVariants as raw
use Rattle.rv_flow.specs.Placed.{word_insn, rv64gc_insn, float_insn, float_form, compressed_insn}
use Rattle.rv_flow.specs.Raw.{raw_flow_by, insn_flow, jalr_flow, pair_target, address_plus}
use Rattle.rv_flow.specs.Inner.{flow_of_whole, long, jal_flow}
use Rattle.rv_flow.proofs.Written.{each_word_is_its_instruction}
use Rattle.rv_flow.proofs.Told.{no_float_67, no_floats}
use Rattle.rv_flow.proofs.Extended.{no_extension_67}

-- ---- a word

module _ (e : Extensions) (bytes : List ℕ) (a w : ℕ) where
  -- the word is an instruction of one of the tables
  by_base : (o : Option Insn) → instruction w ≡ o → flow_of_whole bytes a (word_insn e w) ≡ flow_of_whole bytes a (option_or (option_or o (float_insn e w)) (named_instruction e w))
  by_base o is = ap (λ o. flow_of_whole bytes a (option_or (option_or o (float_insn e w)) (named_instruction e w))) is

  pub jal_told : opcode w ≡ 0x6F → flow_of_whole bytes a (word_insn e w) ≡ long (jal_flow a (rd w) (j_offset w))
  jal_told h = by_base _ (jal_is w h)

  pub jalr_told : opcode w ≡ 0x67 → funct3 w ≡ 0 → flow_of_whole bytes a (word_insn e w) ≡ long (jalr_flow (rd w) (rs1 w) (i_immediate w) (pair_target bytes a (rs1 w) (i_immediate w)))
  jalr_told h plain = by_base _ (jalr_is w h plain)

  pub jalr_none : opcode w ≡ 0x67 → funct3 w ≢ 0 → flow_of_whole bytes a (word_insn e w) ≡ record { length = 2; flow = raw.Stop }
  jalr_none h other = by_base _ (jalr_cases w h) ∙ rw (ne_eqb _ _ other, no_floats e w (no_float_67 w h), no_extension_67 e w h) refl

  pub branch_told : opcode w ≡ 0x63 → funct3 w ≢ 2 → funct3 w ≢ 3 → flow_of_whole bytes a (word_insn e w) ≡ long (raw.Branch (address_plus a (b_offset w)))
  branch_told h two three = by_base _ (branch_cases w h) ∙ grind (arith, nat_tests)

-- ---- a halfword

even_extended : (n sign more : ℕ) → n % 2 ≡ 0 → more % 2 ≡ 0 → cond (ltb n sign) n (n + more) % 2 ≡ 0
even_extended n sign more low high = cond_both (ltb n sign) n (n + more) (λ m. m % 2 ≡ 0) (λ _. low) (λ _. omega (arith, low, high))

even_jump : (h : ℕ) → jump_offset h % 2 ≡ 0
unfolding jump_offset
even_jump h =
    even_extended (placed h ((12, 12, 11) ∷ (11, 11, 4) ∷ (10, 9, 8) ∷ (8, 8, 10) ∷ (7, 7, 6) ∷ (6, 6, 7) ∷ (5, 3, 1) ∷ (2, 2, 5) ∷ []))
    (2 ^ 11) (2 ^ 21 - 2 ^ 12) (omega arith) refl

even_branch : (h : ℕ) → branch_offset h % 2 ≡ 0
unfolding branch_offset
even_branch h =
    even_extended (placed h ((12, 12, 8) ∷ (11, 10, 3) ∷ (6, 5, 6) ∷ (4, 3, 1) ∷ (2, 2, 5) ∷ []))
    (2 ^ 8) (2 ^ 13 - 2 ^ 9) (omega arith) refl

jump_word : (h : ℕ) → field h 1 0 ≡ 1 → field h 15 13 ≡ 5 → expansion h ≡ Some (jal 0 (jump_offset h))
unfolding quadrant_1
jump_word h q f = expansion-quadrant_1 h q ∙ rw (q, f) refl

beqz_word : (h : ℕ) → field h 1 0 ≡ 1 → field h 15 13 ≡ 6 → expansion h ≡ Some (beq (first_popular h) 0 (branch_offset h))
unfolding quadrant_1
beqz_word h q f = expansion-quadrant_1 h q ∙ rw (q, f) refl

bnez_word : (h : ℕ) → field h 1 0 ≡ 1 → field h 15 13 ≡ 7 → expansion h ≡ Some (bne (first_popular h) 0 (branch_offset h))
unfolding quadrant_1
bnez_word h q f = expansion-quadrant_1 h q ∙ rw (q, f) refl

jr_word : (h : ℕ) → field h 1 0 ≡ 2 → field h 15 13 ≡ 4 → field h 12 12 ≡ 0 → second_register h ≡ 0 → first_register h ≢ 0 → expansion h ≡ Some (jalr 0 (first_register h) 0)
unfolding quadrant_2
jr_word h q f link none some = expansion-quadrant_2 h q ∙ rw (q, f, link, none, ne_eqb _ _ some) refl

jalr_word : (h : ℕ) → field h 1 0 ≡ 2 → field h 15 13 ≡ 4 → field h 12 12 ≡ 1 → second_register h ≡ 0 → first_register h ≢ 0 → expansion h ≡ Some (jalr 1 (first_register h) 0)
unfolding quadrant_2
jalr_word h q f link none some = expansion-quadrant_2 h q ∙ rw (q, f, link, none, ne_eqb _ _ some) refl

module _ (e : Extensions) (bytes : List ℕ) (a h : ℕ) where
  -- the halfword stands for this word, which is this instruction
  by_word : (w : ℕ) (i : Insn) → expansion h ≡ Some w → instruction w ≡ Some i → raw_flow_by bytes a (compressed_insn e h) ≡ insn_flow bytes a i
  by_word w i stands is =
      ap (λ o. raw_flow_by bytes a (option_map_or (rv64gc_insn e) (option_or o (float_form e h)) (extension_form e h))) stands
      ∙ ap (λ o. raw_flow_by bytes a (option_or o (float_insn e w))) is

  pub short_jump : field h 1 0 ≡ 1 → field h 15 13 ≡ 5 → jump_offset h < 2 ^ 21 → raw_flow_by bytes a (compressed_insn e h) ≡ raw.Jump (address_plus a (sign_extended 21 (jump_offset h)))
  short_jump q f fits =
      by_word _ _ (jump_word h q f) (each_word_is_its_instruction.jal_is 0 (jump_offset h) (omega arith) fits (even_jump h))

  pub short_beqz : field h 1 0 ≡ 1 → field h 15 13 ≡ 6 → branch_offset h < 2 ^ 13 → raw_flow_by bytes a (compressed_insn e h) ≡ raw.Branch (address_plus a (sign_extended 13 (branch_offset h)))
  short_beqz q f fits =
      by_word _ _ (beqz_word h q f) (each_word_is_its_instruction.beq_is (first_popular h) 0 (branch_offset h) (omega arith) (omega arith) fits (even_branch h))

  pub short_bnez : field h 1 0 ≡ 1 → field h 15 13 ≡ 7 → branch_offset h < 2 ^ 13 → raw_flow_by bytes a (compressed_insn e h) ≡ raw.Branch (address_plus a (sign_extended 13 (branch_offset h)))
  short_bnez q f fits =
      by_word _ _ (bnez_word h q f) (each_word_is_its_instruction.bne_is (first_popular h) 0 (branch_offset h) (omega arith) (omega arith) fits (even_branch h))

  -- A jump through a register, which links to x0 or to x1 by bit 12.
  module _ (q : field h 1 0 ≡ 2) (f : field h 15 13 ≡ 4) (none : second_register h ≡ 0) (some : first_register h ≢ 0) where
    abbrev jalr_by : ℕ → RawFlow
    jalr_by link = jalr_flow link (first_register h) (pos 0) (pair_target bytes a (first_register h) (pos 0))

    linked : (link : ℕ) → link < 2 → field h 12 12 ≡ link → raw_flow_by bytes a (compressed_insn e h) ≡ jalr_by link
    linked zero below is = by_word _ _ (jr_word h q f is none some) (each_word_is_its_instruction.jalr_is 0 (first_register h) 0 (omega arith) (omega arith) (omega arith))
    linked (suc zero) below is = by_word _ _ (jalr_word h q f is none some) (each_word_is_its_instruction.jalr_is 1 (first_register h) 0 (omega arith) (omega arith) (omega arith))
    linked (suc (suc n)) below is = absurd (omega (arith, below))

    pub short_register : raw_flow_by bytes a (compressed_insn e h) ≡ jalr_by (field h 12 12)
    short_register = linked (field h 12 12) (omega arith) refl
