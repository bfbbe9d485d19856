-- An instruction of an accepted file in its place: its operands, and where it ends.
use Rattle.std.proofs.Common.{◌≡◌, ℕ, ◌%◌, ◌/◌, ◌⊎◌, ◌==◌, List, Option, Some, None, is_some, refl, ap, inl, inr}
use Rattle.std.specs.Prelude.{IsSome, IfSome}
use Rattle.std.specs.Option.{option_map_or}
use Rattle.std.proofs.lemmas.Bool.{cond_both}
use Rattle.elf_image.specs.Architecture.{extensions_of}
use Rattle.elf_image.specs.Code.{half_at, word_at}
use Rattle.rv_decode.specs.declared.instructions.Insn.{Insn}
use Rattle.rv_flow.specs.declared.placed.Placed.{Placed}
use Rattle.rv_flow.specs.Placed.{placed_at, placed_by, whole, whole_insn, bad}
use Rattle.jump_table.specs.Inner.Operands.{HasOperands}
use Rattle.jump_table.specs.Inner.Straight.{IsLength}
use Rattle.jump_table.proofs.Extensions.{word_operands_fit, half_operands_fit}

-- Two bytes, or four that are all there; and operands within their fields.
pub record IsPlaced (bytes : List ℕ) (a : ℕ) (placed : Placed) : Type 0 where
  pub size : (placed.length ≡ 2) ⊎ ((placed.length ≡ 4) × IsSome (word_at bytes a))
  pub operands : IfSome placed.insn HasOperands

module _ (bytes : List ℕ) (a : ℕ) where
  whole-decoded : (w : ℕ) → word_at bytes a ≡ Some w → (insn : Option Insn) → IfSome insn HasOperands → IsPlaced bytes a (whole insn)
  whole-decoded w is None fit = record { size = inl refl; operands = tt }
  whole-decoded w is (Some insn) fit = record { size = inr (refl, ap (λ o. is_some o) is); operands = fit }

  whole-placed : (word : Option ℕ) → word_at bytes a ≡ word → IsPlaced bytes a (whole (whole_insn (extensions_of bytes) word))
  whole-placed None is = record { size = inl refl; operands = tt }
  whole-placed (Some w) is = whole-decoded w is (whole_insn (extensions_of bytes) (Some w)) (word_operands_fit (extensions_of bytes) w)

  by-half : (half : Option ℕ) → IsPlaced bytes a (option_map_or (placed_by (extensions_of bytes) bytes a) half bad)
  by-half None = record { size = inl refl; operands = tt }
  by-half (Some half) =
      cond_both (half % 4 == 3) _ _ (IsPlaced bytes a)
      (λ _. cond_both (half / 4 % 8 == 7) _ _ (IsPlaced bytes a) (λ _. record { size = inl refl; operands = tt }) (λ _. whole-placed (word_at bytes a) refl))
      (λ _. record { size = inl refl; operands = half_operands_fit (extensions_of bytes) half })

  pub is-placed : IsPlaced bytes a (placed_at bytes a)
  is-placed = by-half (half_at bytes a)

  pub placed-operands : IfSome (placed_at bytes a).insn HasOperands
  placed-operands = is-placed.operands

  length-of : (placed : Placed) → (placed.length ≡ 2) ⊎ ((placed.length ≡ 4) × IsSome (word_at bytes a)) → IsLength placed.length
  length-of placed (inl short) = inl short
  length-of placed (inr long) = inr long.0

  pub placed-length : IsLength (placed_at bytes a).length
  placed-length = length-of (placed_at bytes a) is-placed.size
