-- The length of an instruction that ends a chain: most are told by their first halfword, and by whether
-- their whole word is there.
use Rattle.std.proofs.Common.{◌≡◌, ◌≢◌, ℕ, ◌+◌, ◌*◌, ◌/◌, ◌%◌, ◌^◌, ◌==◌, ◌⊎◌, Bool, true, false, cond, List, drop, slice_index, Option, Some, None, is_some, refl, sym, ap, ◌∙◌, subst, inl, inr, arith}
use Rattle.std.specs.Option.{option_map, option_map_or, option_and_then, option_or}
use Rattle.std.proofs.lemmas.Bool.{cond-true, cond-false}
use Rattle.std.proofs.lemmas.Bool.Decides.{nat_tests}
use Rattle.std.proofs.lemmas.Option.{same_Some, none-some}
use Rattle.elf_image.specs.declared.section.Section.{Section}
use Rattle.elf_image.specs.Architecture.{extensions_of}
use Rattle.elf_image.specs.Code.{half_at, word_at, word_in, code_section_of}
use Rattle.elf_image.specs.Number.{u16_at, u32_at}
use Rattle.elf_image.specs.Sections.{file_offset, holds_bytes}
use Rattle.rv_decode.specs.Fields.{opcode, funct3}
use Rattle.rv_decode.specs.Table.{instruction}
use Rattle.rv_decode.specs.declared.instructions.Insn.{Insn}
use Rattle.rv_decode.proofs.ByOpcode.{jal_is, branch_cases}
use Rattle.rv_decode.proofs.ByFields.{jalr_is}
use Rattle.rv_float.specs.Table.{float_instruction}
use Rattle.rv_flow.specs.declared.placed.Placed.{Placed}
use Rattle.rv_extensions.specs.IntegerFloats.{named_instruction}
use Rattle.rv_flow.specs.Placed.{placed_at, placed_by, float_insn, rv64gc_insn, word_insn, whole, whole_insn, bad}
use Rattle.code_view.specs.JumpWord.{is_jump_word}

-- ---- a word that is a jump, a call or a branch

branch-some : (w : ℕ) → opcode w ≡ 0x63 → funct3 w ≢ 2 → funct3 w ≢ 3 → is_some (instruction w) ≡ true
branch-some w is two three = rw (branch_cases w is) (grind (arith, nat_tests))

word-some : (half rest w : ℕ) → w ≡ half + 2 ^ 16 * rest → is_jump_word half ≡ true → is_some (instruction w) ≡ true
word-some half rest w is jump = elim (cases jump) [
  | inl jal ↦ ap is_some (jal_is w (omega (arith, is, jal)))
  | inr other ↦ elim other [
    | inl jalr ↦ ap is_some (jalr_is w (omega (arith, is, jalr.0)) (omega (arith, is, jalr.1)))
    | inr branch ↦ branch-some w (omega (arith, is, branch.0)) (λ e. branch.1 (omega (arith, is, e))) (λ e. branch.1 (omega (arith, is, e)))
  ]
]
  where
    cases : is_jump_word half ≡ true → (half % 2 ^ 7 ≡ 0x6F) ⊎ (((half % 2 ^ 7 ≡ 0x67) × (half / 2 ^ 12 % 8 ≡ 0)) ⊎ ((half % 2 ^ 7 ≡ 0x63) × (half / 2 ^ 13 % 4 ≢ 1)))
    cases h = grind (arith, nat_tests)

either-some : (o p : Option Insn) → is_some o ≡ true → is_some (option_or o p) ≡ true
either-some None p some = absurd (cc)
either-some (Some insn) p some = refl

-- ---- its halfword in the file

rest_of : (bytes : List ℕ) (at : ℕ) → (rest : ℕ) × (u32_at bytes at ≡ u16_at bytes at + 2 ^ 16 * rest)
unfolding u16_at u32_at
rest_of bytes at = (slice_index (drop at bytes) 2 + 256 * slice_index (drop at bytes) 3, omega arith)

module _ (bytes : List ℕ) (a half : ℕ) (is : half_at bytes a ≡ Some half) where
  begins-in : (s : Section) (w : ℕ) (b : Bool) → u16_at bytes (file_offset s a) ≡ half → cond b (Some (u32_at bytes (file_offset s a))) None ≡ Some w → (rest : ℕ) × (w ≡ half + 2 ^ 16 * rest)
  begins-in s w true here there =
      let same : u32_at bytes (file_offset s a) ≡ w = same_Some _ w there in
      let by = rest_of bytes (file_offset s a) in
      (by.0, sym same ∙ by.1 ∙ ap (λ n. n + 2 ^ 16 * by.0) here)
  begins-in s w false here there = absurd (none-some w there)

  begins : (o : Option Section) (w : ℕ) → option_map (λ (s : Section). u16_at bytes (file_offset s a)) o ≡ Some half → option_and_then (word_in bytes a) o ≡ Some w → (rest : ℕ) × (w ≡ half + 2 ^ 16 * rest)
  begins None w here there = absurd (none-some half here)
  begins (Some s) w here there = begins-in s w (holds_bytes a 4 s) (same_Some _ half here) there

  by-half : (n : ℕ) → (placed_by (extensions_of bytes) bytes a half).length ≡ n → (placed_at bytes a).length ≡ n
  by-half n length = subst (λ (o : Option ℕ). (option_map_or (placed_by (extensions_of bytes) bytes a) o bad).length ≡ n) (sym is) length

  -- A 16-bit form has the length 2.
  pub short-length : (half % 4 == 3) ≡ false → (placed_at bytes a).length ≡ 2
  short-length short = by-half 2 (ap (λ (p : Placed). p.length) (cond-false (half % 4 == 3) _ _ short))

  whole-length : (o : Option Insn) → is_some o ≡ true → (whole o).length ≡ 4
  whole-length None some = absurd (cc)
  whole-length (Some insn) some = refl

  word-length : is_jump_word half ≡ true → (word : Option ℕ) → word_at bytes a ≡ word → (whole (whole_insn (extensions_of bytes) word)).length ≡ cond (is_some word) 4 2
  word-length jump None there = refl
  word-length jump (Some w) there =
      let by = begins (code_section_of bytes a) w is there in
      whole-length (word_insn (extensions_of bytes) w)
      (either-some (rv64gc_insn (extensions_of bytes) w) (named_instruction (extensions_of bytes) w)
      (either-some (instruction w) (float_insn (extensions_of bytes) w) (word-some half by.0 w by.1 jump)))

  -- A jump, a call or a branch of 32 bits has the length 4 where its word is there, and else 2.
  pub jump-length : is_jump_word half ≡ true → (placed_at bytes a).length ≡ cond (is_some (word_at bytes a)) 4 2
  jump-length jump =
      let long : (half % 4 == 3) ≡ true = grind (arith, nat_tests) in
      let fits : (half / 4 % 8 == 7) ≡ false = grind (arith, nat_tests) in
      by-half (cond (is_some (word_at bytes a)) 4 2)
      (ap (λ (p : Placed). p.length) (cond-true (half % 4 == 3) _ _ long ∙ cond-false (half / 4 % 8 == 7) bad (whole (whole_insn (extensions_of bytes) (word_at bytes a))) fits)
      ∙ word-length jump (word_at bytes a) refl)
