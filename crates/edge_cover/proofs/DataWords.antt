-- Words of read-only data: they are below 2 to the power 32, and a load finds them.
use Rattle.std.proofs.Common.{◌≡◌, ℕ, suc, ◌+◌, ◌-◌, ◌%◌, ◌^◌, ◌<◌, Bool, true, false, List, length, get_or, drop, Some, ltb, cond, refl, sym, ap, ◌∙◌, subst, inl, inr, arith}
use Rattle.std.specs.Prelude.{All, slice_index, pos, negsuc}
use Rattle.std.specs.Int.{cast_unsigned, w32, w64}
use Rattle.std.specs.Option.{option_map, option_or}
use Rattle.std.proofs.lemmas.Bool.{cases_Bool, ltb-true, ltb-false}
use Rattle.std.proofs.lemmas.Option.{same_Some}
use Rattle.std.proofs.lemmas.List.{get_or_past, get_or-drop}
use Rattle.elf_image.specs.declared.section.Section.{Section}
use Rattle.elf_image.specs.Number.{u32_at}
use Rattle.elf_image.specs.Sections.{file_offset}
use Rattle.elf_image.specs.ReadOnly.{data_word, data_section_of}
use Rattle.rv_operations.specs.Arithmetic.{sign_extended}
use Rattle.jump_table.specs.Table.{word_extended, doubleword, entry_at}
use Rattle.rv_machine.specs.Memory.{Bytes, loaded}
use Rattle.rv_machine.specs.Access.{read_at, data_double}
use Rattle.edge_cover.proofs.Pairs.{and_then_some, map_some}

-- ---- they are words

module _ (bytes : List ℕ) (small : All (λ byte. byte < 256) bytes) where
  byte_small : (i : ℕ) → get_or bytes i 0 < 256
  byte_small i = elim (cases_Bool (ltb i (length bytes))) [
    | inl inside ↦ small i 0 (ltb-true i (length bytes) inside)
    | inr past ↦ subst (λ b. b < 256) (sym (get_or_past bytes i 0 (ltb-false i (length bytes) past))) (omega arith)
  ]

  pub dropped_small : (at i : ℕ) → slice_index (drop at bytes) i < 256
  dropped_small at i = subst (λ b. b < 256) (sym (get_or-drop at bytes i 0)) (byte_small (at + i))

  word_small : (at : ℕ) → u32_at bytes at < 2 ^ 32
  unfolding u32_at
  word_small at = omega (arith, dropped_small at 0, dropped_small at 1, dropped_small at 2, dropped_small at 3)

  pub data_small : (a w : ℕ) → data_word bytes a ≡ Some w → w < 2 ^ 32
  data_small a w there =
      let s = map_some (λ (s : Section). u32_at bytes (file_offset s a)) (data_section_of bytes a) w there in
      subst (λ n. n < 2 ^ 32) s.2 (word_small (file_offset s.0 a))

-- ---- a sign-extended word is the same by both definitions

pub extended : (w : ℕ) → w < 2 ^ 32 → sign_extended w32 w ≡ word_extended w
extended w small = by (ltb w (2 ^ 31)) refl
  where
    read : Bool → ℕ
    read b = cast_unsigned w64 (cond b (pos w) (negsuc (2 ^ 32 - suc w)))

    also : Bool → ℕ
    also b = cond b w (w + (2 ^ 64 - 2 ^ 32))

    moved : 2 ^ 64 - suc (2 ^ 32 - suc w) ≡ w + (2 ^ 64 - 2 ^ 32)
    moved = omega arith

    by : (b : Bool) → ltb w (2 ^ 31) ≡ b → sign_extended w32 w ≡ word_extended w
    by true low = ap read low ∙ sym (ap also low)
    by false high = ap read high ∙ moved ∙ sym (ap also high)

-- ---- a load of read-only data

module _ (bytes : List ℕ) (memory : Bytes) (a value : ℕ) where
  pub word_read : (w : ℕ) → data_word bytes a ≡ Some w → read_at bytes memory 4 a ≡ Some value → value ≡ w
  unfolding read_at
  word_read w there reads = same_Some value w (sym reads ∙ ap (λ o. option_or o (loaded 4 memory a)) there)

  pub double_read : (low high : ℕ) → data_word bytes a ≡ Some low → data_word bytes ((a + 4) % 2 ^ 64) ≡ Some high → read_at bytes memory 8 a ≡ Some value → value ≡ doubleword low high
  unfolding read_at
  double_read low high first second reads =
      same_Some value (doubleword low high) (sym reads ∙ ap (λ o. option_or o (loaded 8 memory a)) both)
    where
      both : data_double bytes a ≡ Some (doubleword low high)
      both = rw (first, second) refl

-- ---- what an entry of a table is

module _ (bytes : List ℕ) (p e : ℕ) where
  pub entry_word : entry_at bytes 4 p ≡ Some e → (w : ℕ) × (data_word bytes p ≡ Some w) × (word_extended w ≡ e)
  entry_word is = map_some word_extended (data_word bytes p) e is

  pub entry_double : entry_at bytes 8 p ≡ Some e → (low : ℕ) × (high : ℕ) × (data_word bytes p ≡ Some low) × (data_word bytes (p + 4) ≡ Some high) × (doubleword low high ≡ e)
  entry_double is =
      let low = and_then_some (λ low. option_map (doubleword low) (data_word bytes (p + 4))) (data_word bytes p) e is in
      let high = map_some (doubleword low.0) (data_word bytes (p + 4)) e low.2 in
      (low.0, high.0, low.1, high.1, high.2)
