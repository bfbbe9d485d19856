-- Each form's word has the opcode, funct3 and funct7 of a row of the instruction table, whatever its
-- registers and immediate are.
use Rattle.std.proofs.Common.{◌≡◌, ℕ, ◌+◌, ◌<◌, ◌^◌, Bool, true, false, List, [], ◌∷◌, ◌++◌, cond, Some, Option, is_some, IsSome, subst, ap, ◌∙◌, arith}
use Rattle.rv_decode.specs.Fields.{opcode, funct3, funct6, funct7}
use Rattle.rv_decode.specs.Table.{instruction}
use Rattle.rv_decode.specs.declared.instructions.Insn.{Insn}
use Rattle.rv_decode.proofs.ByOpcode.{lui_is, jal_is, ebreak_is}
use Rattle.rv_decode.proofs.ByFields.{jalr_is, beq_is, bne_is, lw_is, ld_is, sw_is, sd_is, addi_is, andi_is, slli_is, srli_is, srai_is, addiw_is, add_is, xor_is, or_is, and_is, sub_is, addw_is, subw_is}
use Rattle.rvc_expand.specs.Bits.{field}
use Rattle.rvc_expand.specs.Formats.{r_type, i_type, s_type, b_type, u_type, j_type}
use Rattle.rvc_expand.specs.Halfword.{first_register, second_register, first_popular, second_popular, shift_amount, small_immediate, lui_immediate, addi16sp_immediate, addi4spn_immediate, word_offset, double_offset, lwsp_offset, ldsp_offset, swsp_offset, sdsp_offset, jump_offset, branch_offset}
use Rattle.rvc_expand.specs.Table.{Form, first_word, quadrant_0, quadrant_1, quadrant_2, forms, expansion}
use Rattle.rvc_expand.proofs.FieldsRead.{r_type-opcode, r_type-funct3, r_type-funct7, i_type-opcode, i_type-funct3, i_type-funct6, s_type-opcode, s_type-funct3, b_type-opcode, b_type-funct3, u_type-opcode, j_type-opcode}
use Rattle.rv_flow.specs.Laws.{EveryExpansionDecodes}

-- ---- a word of a format decodes where its opcode and functs are those of a row

r_type_decodes : (o f3 f7 rd rs1 rs2 : ℕ) (meant : ℕ → Insn) → o < 2 ^ 7 → f3 < 2 ^ 3 → f7 < 2 ^ 7 → rd < 2 ^ 5 → rs1 < 2 ^ 5 → rs2 < 2 ^ 5 → ((w : ℕ) → opcode w ≡ o → funct7 w ≡ f7 → funct3 w ≡ f3 → instruction w ≡ Some (meant w)) → IsSome (instruction (r_type o f3 f7 rd rs1 rs2))
r_type_decodes o f3 f7 rd rs1 rs2 meant o_fits f3_fits f7_fits rd_fits rs1_fits rs2_fits row =
    ap is_some
    (row (r_type o f3 f7 rd rs1 rs2) (r_type-opcode o f3 f7 rd rs1 rs2 o_fits)
    (r_type-funct7 o f3 f7 rd rs1 rs2 o_fits rd_fits f3_fits rs1_fits rs2_fits f7_fits)
    (r_type-funct3 o f3 f7 rd rs1 rs2 o_fits rd_fits f3_fits))

i_type_decodes : (o f3 rd rs1 immediate : ℕ) (meant : ℕ → Insn) → o < 2 ^ 7 → f3 < 2 ^ 3 → rd < 2 ^ 5 → ((w : ℕ) → opcode w ≡ o → funct3 w ≡ f3 → instruction w ≡ Some (meant w)) → IsSome (instruction (i_type o f3 rd rs1 immediate))
i_type_decodes o f3 rd rs1 immediate meant o_fits f3_fits rd_fits row =
    ap is_some
    (row (i_type o f3 rd rs1 immediate) (i_type-opcode o f3 rd rs1 immediate o_fits)
    (i_type-funct3 o f3 rd rs1 immediate o_fits rd_fits f3_fits))

-- a shift, whose row asks for the six bits above the amount too
shift_decodes : (o f3 f6 rd rs1 immediate : ℕ) (meant : ℕ → Insn) → o < 2 ^ 7 → f3 < 2 ^ 3 → rd < 2 ^ 5 → rs1 < 2 ^ 5 → immediate < 2 ^ 12 → field immediate 11 6 ≡ f6 → ((w : ℕ) → opcode w ≡ o → funct3 w ≡ f3 → funct6 w ≡ f6 → instruction w ≡ Some (meant w)) → IsSome (instruction (i_type o f3 rd rs1 immediate))
shift_decodes o f3 f6 rd rs1 immediate meant o_fits f3_fits rd_fits rs1_fits immediate_fits above row =
    ap is_some
    (row (i_type o f3 rd rs1 immediate) (i_type-opcode o f3 rd rs1 immediate o_fits)
    (i_type-funct3 o f3 rd rs1 immediate o_fits rd_fits f3_fits)
    (i_type-funct6 o f3 rd rs1 immediate o_fits rd_fits f3_fits rs1_fits immediate_fits ∙ above))

s_type_decodes : (o f3 rs1 rs2 immediate : ℕ) (meant : ℕ → Insn) → o < 2 ^ 7 → f3 < 2 ^ 3 → ((w : ℕ) → opcode w ≡ o → funct3 w ≡ f3 → instruction w ≡ Some (meant w)) → IsSome (instruction (s_type o f3 rs1 rs2 immediate))
s_type_decodes o f3 rs1 rs2 immediate meant o_fits f3_fits row =
    ap is_some
    (row (s_type o f3 rs1 rs2 immediate) (s_type-opcode o f3 rs1 rs2 immediate o_fits)
    (s_type-funct3 o f3 rs1 rs2 immediate o_fits f3_fits))

b_type_decodes : (o f3 rs1 rs2 immediate : ℕ) (meant : ℕ → Insn) → o < 2 ^ 7 → f3 < 2 ^ 3 → ((w : ℕ) → opcode w ≡ o → funct3 w ≡ f3 → instruction w ≡ Some (meant w)) → IsSome (instruction (b_type o f3 rs1 rs2 immediate))
b_type_decodes o f3 rs1 rs2 immediate meant o_fits f3_fits row =
    ap is_some
    (row (b_type o f3 rs1 rs2 immediate) (b_type-opcode o f3 rs1 rs2 immediate o_fits)
    (b_type-funct3 o f3 rs1 rs2 immediate o_fits f3_fits))

-- ---- each instruction of the forms

lui_decodes : (rd immediate : ℕ) → IsSome (instruction (u_type 0x37 rd immediate))
lui_decodes rd immediate = ap is_some (lui_is (u_type 0x37 rd immediate) (u_type-opcode 0x37 rd immediate (omega arith)))

jal_decodes : (rd offset : ℕ) → IsSome (instruction (j_type 0x6f rd offset))
jal_decodes rd offset = ap is_some (jal_is (j_type 0x6f rd offset) (j_type-opcode 0x6f rd offset (omega arith)))

addi_decodes : (rd rs1 immediate : ℕ) → rd < 2 ^ 5 → IsSome (instruction (i_type 0x13 0 rd rs1 immediate))
addi_decodes rd rs1 immediate rd_fits = i_type_decodes 0x13 0 rd rs1 immediate _ (omega arith) (omega arith) rd_fits addi_is

andi_decodes : (rd rs1 immediate : ℕ) → rd < 2 ^ 5 → IsSome (instruction (i_type 0x13 7 rd rs1 immediate))
andi_decodes rd rs1 immediate rd_fits = i_type_decodes 0x13 7 rd rs1 immediate _ (omega arith) (omega arith) rd_fits andi_is

addiw_decodes : (rd rs1 immediate : ℕ) → rd < 2 ^ 5 → IsSome (instruction (i_type 0x1b 0 rd rs1 immediate))
addiw_decodes rd rs1 immediate rd_fits = i_type_decodes 0x1b 0 rd rs1 immediate _ (omega arith) (omega arith) rd_fits addiw_is

lw_decodes : (rd rs1 offset : ℕ) → rd < 2 ^ 5 → IsSome (instruction (i_type 0x03 2 rd rs1 offset))
lw_decodes rd rs1 offset rd_fits = i_type_decodes 0x03 2 rd rs1 offset _ (omega arith) (omega arith) rd_fits lw_is

ld_decodes : (rd rs1 offset : ℕ) → rd < 2 ^ 5 → IsSome (instruction (i_type 0x03 3 rd rs1 offset))
ld_decodes rd rs1 offset rd_fits = i_type_decodes 0x03 3 rd rs1 offset _ (omega arith) (omega arith) rd_fits ld_is

jalr_decodes : (rd rs1 offset : ℕ) → rd < 2 ^ 5 → IsSome (instruction (i_type 0x67 0 rd rs1 offset))
jalr_decodes rd rs1 offset rd_fits = i_type_decodes 0x67 0 rd rs1 offset _ (omega arith) (omega arith) rd_fits jalr_is

slli_decodes : (rd rs1 amount : ℕ) → rd < 2 ^ 5 → rs1 < 2 ^ 5 → amount < 2 ^ 6 → IsSome (instruction (i_type 0x13 1 rd rs1 amount))
slli_decodes rd rs1 amount rd_fits rs1_fits amount_fits =
    shift_decodes 0x13 1 0 rd rs1 amount _ (omega arith) (omega arith) rd_fits rs1_fits (omega arith) (omega arith) slli_is

srli_decodes : (rd rs1 amount : ℕ) → rd < 2 ^ 5 → rs1 < 2 ^ 5 → amount < 2 ^ 6 → IsSome (instruction (i_type 0x13 5 rd rs1 amount))
srli_decodes rd rs1 amount rd_fits rs1_fits amount_fits =
    shift_decodes 0x13 5 0 rd rs1 amount _ (omega arith) (omega arith) rd_fits rs1_fits (omega arith) (omega arith) srli_is

srai_decodes : (rd rs1 amount : ℕ) → rd < 2 ^ 5 → rs1 < 2 ^ 5 → amount < 2 ^ 6 → IsSome (instruction (i_type 0x13 5 rd rs1 (amount + 0x400)))
srai_decodes rd rs1 amount rd_fits rs1_fits amount_fits =
    shift_decodes 0x13 5 16 rd rs1 (amount + 0x400) _ (omega arith) (omega arith) rd_fits rs1_fits (omega arith) (omega arith) srai_is

sw_decodes : (rs1 rs2 offset : ℕ) → IsSome (instruction (s_type 0x23 2 rs1 rs2 offset))
sw_decodes rs1 rs2 offset = s_type_decodes 0x23 2 rs1 rs2 offset _ (omega arith) (omega arith) sw_is

sd_decodes : (rs1 rs2 offset : ℕ) → IsSome (instruction (s_type 0x23 3 rs1 rs2 offset))
sd_decodes rs1 rs2 offset = s_type_decodes 0x23 3 rs1 rs2 offset _ (omega arith) (omega arith) sd_is

beq_decodes : (rs1 rs2 offset : ℕ) → IsSome (instruction (b_type 0x63 0 rs1 rs2 offset))
beq_decodes rs1 rs2 offset = b_type_decodes 0x63 0 rs1 rs2 offset _ (omega arith) (omega arith) beq_is

bne_decodes : (rs1 rs2 offset : ℕ) → IsSome (instruction (b_type 0x63 1 rs1 rs2 offset))
bne_decodes rs1 rs2 offset = b_type_decodes 0x63 1 rs1 rs2 offset _ (omega arith) (omega arith) bne_is

add_decodes : (rd rs1 rs2 : ℕ) → rd < 2 ^ 5 → rs1 < 2 ^ 5 → rs2 < 2 ^ 5 → IsSome (instruction (r_type 0x33 0 0x00 rd rs1 rs2))
add_decodes rd rs1 rs2 rd_fits rs1_fits rs2_fits =
    r_type_decodes 0x33 0 0x00 rd rs1 rs2 _ (omega arith) (omega arith) (omega arith) rd_fits rs1_fits rs2_fits add_is

sub_decodes : (rd rs1 rs2 : ℕ) → rd < 2 ^ 5 → rs1 < 2 ^ 5 → rs2 < 2 ^ 5 → IsSome (instruction (r_type 0x33 0 0x20 rd rs1 rs2))
sub_decodes rd rs1 rs2 rd_fits rs1_fits rs2_fits =
    r_type_decodes 0x33 0 0x20 rd rs1 rs2 _ (omega arith) (omega arith) (omega arith) rd_fits rs1_fits rs2_fits sub_is

xor_decodes : (rd rs1 rs2 : ℕ) → rd < 2 ^ 5 → rs1 < 2 ^ 5 → rs2 < 2 ^ 5 → IsSome (instruction (r_type 0x33 4 0x00 rd rs1 rs2))
xor_decodes rd rs1 rs2 rd_fits rs1_fits rs2_fits =
    r_type_decodes 0x33 4 0x00 rd rs1 rs2 _ (omega arith) (omega arith) (omega arith) rd_fits rs1_fits rs2_fits xor_is

or_decodes : (rd rs1 rs2 : ℕ) → rd < 2 ^ 5 → rs1 < 2 ^ 5 → rs2 < 2 ^ 5 → IsSome (instruction (r_type 0x33 6 0x00 rd rs1 rs2))
or_decodes rd rs1 rs2 rd_fits rs1_fits rs2_fits =
    r_type_decodes 0x33 6 0x00 rd rs1 rs2 _ (omega arith) (omega arith) (omega arith) rd_fits rs1_fits rs2_fits or_is

and_decodes : (rd rs1 rs2 : ℕ) → rd < 2 ^ 5 → rs1 < 2 ^ 5 → rs2 < 2 ^ 5 → IsSome (instruction (r_type 0x33 7 0x00 rd rs1 rs2))
and_decodes rd rs1 rs2 rd_fits rs1_fits rs2_fits =
    r_type_decodes 0x33 7 0x00 rd rs1 rs2 _ (omega arith) (omega arith) (omega arith) rd_fits rs1_fits rs2_fits and_is

addw_decodes : (rd rs1 rs2 : ℕ) → rd < 2 ^ 5 → rs1 < 2 ^ 5 → rs2 < 2 ^ 5 → IsSome (instruction (r_type 0x3b 0 0x00 rd rs1 rs2))
addw_decodes rd rs1 rs2 rd_fits rs1_fits rs2_fits =
    r_type_decodes 0x3b 0 0x00 rd rs1 rs2 _ (omega arith) (omega arith) (omega arith) rd_fits rs1_fits rs2_fits addw_is

subw_decodes : (rd rs1 rs2 : ℕ) → rd < 2 ^ 5 → rs1 < 2 ^ 5 → rs2 < 2 ^ 5 → IsSome (instruction (r_type 0x3b 0 0x20 rd rs1 rs2))
subw_decodes rd rs1 rs2 rd_fits rs1_fits rs2_fits =
    r_type_decodes 0x3b 0 0x20 rd rs1 rs2 _ (omega arith) (omega arith) (omega arith) rd_fits rs1_fits rs2_fits subw_is

ebreak_decodes : IsSome (instruction (i_type 0x73 0 0 0 1))
unfolding i_type
ebreak_decodes = ap is_some ebreak_is

shift_amount_fits : (h : ℕ) → shift_amount h < 2 ^ 6
unfolding shift_amount
shift_amount_fits h = omega arith

-- ---- each form of the table

-- whatever the halfword, the word of each of the rows is an instruction
abbrev EachDecodes : List Form → Type 0
EachDecodes [] = Unit {0}
EachDecodes (x ∷ xs) = ((h : ℕ) → IsSome (instruction (x.word h))) × EachDecodes xs

quadrant_0_decodes : EachDecodes quadrant_0
unfolding quadrant_0
quadrant_0_decodes = (
  λ h. addi_decodes (second_popular h) 2 (addi4spn_immediate h) (omega arith),
  (
    λ h. lw_decodes (second_popular h) (first_popular h) (word_offset h) (omega arith),
    (
      λ h. ld_decodes (second_popular h) (first_popular h) (double_offset h) (omega arith),
      (
        λ h. sw_decodes (first_popular h) (second_popular h) (word_offset h),
        (λ h. sd_decodes (first_popular h) (second_popular h) (double_offset h), tt),
      ),
    ),
  ),
)

quadrant_1_decodes : EachDecodes quadrant_1
unfolding quadrant_1
quadrant_1_decodes = (
  λ h. addi_decodes (first_register h) (first_register h) (small_immediate h) (omega arith),
  (
    λ h. addiw_decodes (first_register h) (first_register h) (small_immediate h) (omega arith),
    (
      λ h. addi_decodes (first_register h) 0 (small_immediate h) (omega arith),
      (
        λ h. addi_decodes 2 2 (addi16sp_immediate h) (omega arith),
        (
          λ h. lui_decodes (first_register h) (lui_immediate h),
          (
            λ h. srli_decodes (first_popular h) (first_popular h) (shift_amount h) (omega arith) (omega arith) (shift_amount_fits h),
            (
              λ h. srai_decodes (first_popular h) (first_popular h) (shift_amount h) (omega arith) (omega arith) (shift_amount_fits h),
              (
                λ h. andi_decodes (first_popular h) (first_popular h) (small_immediate h) (omega arith),
                (
                  λ h. sub_decodes (first_popular h) (first_popular h) (second_popular h) (omega arith) (omega arith) (omega arith),
                  (
                    λ h. xor_decodes (first_popular h) (first_popular h) (second_popular h) (omega arith) (omega arith) (omega arith),
                    (
                      λ h. or_decodes (first_popular h) (first_popular h) (second_popular h) (omega arith) (omega arith) (omega arith),
                      (
                        λ h. and_decodes (first_popular h) (first_popular h) (second_popular h) (omega arith) (omega arith) (omega arith),
                        (
                          λ h. subw_decodes (first_popular h) (first_popular h) (second_popular h) (omega arith) (omega arith) (omega arith),
                          (
                            λ h. addw_decodes (first_popular h) (first_popular h) (second_popular h) (omega arith) (omega arith) (omega arith),
                            (
                              λ h. jal_decodes 0 (jump_offset h),
                              (
                                λ h. beq_decodes (first_popular h) 0 (branch_offset h),
                                (λ h. bne_decodes (first_popular h) 0 (branch_offset h), tt),
                              ),
                            ),
                          ),
                        ),
                      ),
                    ),
                  ),
                ),
              ),
            ),
          ),
        ),
      ),
    ),
  ),
)

quadrant_2_decodes : EachDecodes quadrant_2
unfolding quadrant_2
quadrant_2_decodes = (
  λ h. slli_decodes (first_register h) (first_register h) (shift_amount h) (omega arith) (omega arith) (shift_amount_fits h),
  (
    λ h. lw_decodes (first_register h) 2 (lwsp_offset h) (omega arith),
    (
      λ h. ld_decodes (first_register h) 2 (ldsp_offset h) (omega arith),
      (
        λ h. jalr_decodes 0 (first_register h) 0 (omega arith),
        (
          λ h. add_decodes (first_register h) 0 (second_register h) (omega arith) (omega arith) (omega arith),
          (
            λ h. ebreak_decodes,
            (
              λ h. jalr_decodes 1 (first_register h) 0 (omega arith),
              (
                λ h. add_decodes (first_register h) (first_register h) (second_register h) (omega arith) (omega arith) (omega arith),
                (
                  λ h. sw_decodes 2 (second_register h) (swsp_offset h),
                  (λ h. sd_decodes 2 (second_register h) (sdsp_offset h), tt),
                ),
              ),
            ),
          ),
        ),
      ),
    ),
  ),
)

-- ---- the whole table

EachDecodes-append : (xs ys : List Form) → EachDecodes xs → EachDecodes ys → EachDecodes (xs ++ ys)
EachDecodes-append [] ys here there = there
EachDecodes-append (x ∷ xs) ys here there = (here.0, EachDecodes-append xs ys here.1 there)

chosen_decodes : (b : Bool) (w : ℕ) (o : Option ℕ) (word : ℕ) → cond b (Some w) o ≡ Some word → IsSome (instruction w) → (o ≡ Some word → IsSome (instruction word)) → IsSome (instruction word)
chosen_decodes true w o word is here later =
    let same : w ≡ word = cc in subst (λ (x : ℕ). IsSome (instruction x)) same here
chosen_decodes false w o word is here later = later is

first_word_decodes : (xs : List Form) → EachDecodes xs → (h word : ℕ) → first_word xs h ≡ Some word → IsSome (instruction word)
first_word_decodes [] each h word is = cc
first_word_decodes (x ∷ xs) each h word is =
    chosen_decodes (x.holds h) (x.word h) (first_word xs h) word is (each.0 h) (first_word_decodes xs each.1 h word)

forms_decode : EachDecodes forms
unfolding forms
forms_decode =
    EachDecodes-append (quadrant_0 ++ quadrant_1) quadrant_2
    (EachDecodes-append quadrant_0 quadrant_1 quadrant_0_decodes quadrant_1_decodes) quadrant_2_decodes

pub every_expansion_decodes : EveryExpansionDecodes
unfolding expansion
every_expansion_decodes half word is = first_word_decodes forms forms_decode half word is
