-- The length of a straight instruction is told by its first halfword, and that control goes on by how
-- far the chain reaches.
use Rattle.std.proofs.Common.{◌≡◌, ℕ, ◌+◌, ◌*◌, ◌<◌, ◌≤◌, ◌^◌, ◌%◌, ◌/◌, ◌==◌, List, Option, Some, None, refl, sym, ap, ◌∙◌, arith}
use Rattle.std.specs.Option.{option_map_or}
use Rattle.std.proofs.lemmas.Bool.{cond_both, cond-true, cond-false}
use Rattle.std.proofs.lemmas.Option.{cond_some, none-some, same_Some}
use Rattle.elf_image.specs.declared.extensions.Extensions.{Extensions}
use Rattle.elf_image.specs.Architecture.{extensions_of}
use Rattle.elf_image.specs.Code.{is_code, half_at, word_at}
use Rattle.elf_image.specs.Faults.{IsImage}
use Rattle.rv_decode.specs.declared.instructions.Insn.{Insn}
use Rattle.rv_flow.specs.declared.placed.Placed.{Placed}
use Rattle.rv_flow.specs.declared.raw.RawFlow.{RawFlow}
use Rattle.rv_flow.specs.declared.raw.RawFlow.TheVariants as raw
use Rattle.rv_flow.specs.Placed.{placed_by, whole, whole_insn, bad}
use Rattle.rv_flow.specs.Raw.{raw_flow_by, insn_flow}
use Rattle.rv_flow.specs.Straight.{length_where_straight, straight_length_at}
use Rattle.chain_index.specs.Chain.{next_behind, next_of, IsChainEnd}
use Rattle.chain_index.specs.Inner.{length_by}
use Rattle.chain_index.proofs.Ends.{next_code, code_below}

-- where an instruction is straight, the length is its own
own_length : (r : RawFlow) (m n : ℕ) → length_where_straight r m ≡ Some n → n ≡ m
own_length raw.Straight m n is = sym (same_Some m n is)
own_length (raw.Branch target) m n is = absurd (none-some n is)
own_length (raw.Jump target) m n is = absurd (none-some n is)
own_length (raw.Call target) m n is = absurd (none-some n is)
own_length raw.IndirectCall m n is = absurd (none-some n is)
own_length raw.Return m n is = absurd (none-some n is)
own_length raw.Unknown m n is = absurd (none-some n is)
own_length (raw.RegisterJump register offset) m n is = absurd (none-some n is)
own_length raw.Stop m n is = absurd (none-some n is)

module _ (bytes : List ℕ) (a : ℕ) where
  abbrev straight_of : Placed → Option ℕ
  straight_of placed = length_where_straight (raw_flow_by bytes a placed.insn) placed.length

  of_whole : (insn : Option Insn) (n : ℕ) → straight_of (whole insn) ≡ Some n → n ≡ 4
  of_whole None n is = absurd (none-some n is)
  of_whole (Some insn) n is = own_length (insn_flow bytes a insn) 4 n is

  of_half : (e : Extensions) (half n : ℕ) → straight_of (placed_by e bytes a half) ≡ Some n → n ≡ length_by half
  of_half e half n =
      cond_both (half % 4 == 3) _ _ (λ placed. straight_of placed ≡ Some n → n ≡ length_by half)
      (λ long. cond_both (half / 4 % 8 == 7) bad (whole (whole_insn e (word_at bytes a))) (λ placed. straight_of placed ≡ Some n → n ≡ length_by half)
      (λ _. λ is. absurd (none-some n is))
      (λ _. λ is. of_whole (whole_insn e (word_at bytes a)) n is ∙ sym (cond-true (half % 4 == 3) 4 2 long)))
      (λ short. λ is. own_length _ 2 n is ∙ sym (cond-false (half % 4 == 3) 4 2 short))

  at_half : (e : Extensions) (o : Option ℕ) (n : ℕ) → straight_of (option_map_or (placed_by e bytes a) o bad) ≡ Some n → (half : ℕ) × (o ≡ Some half) × (n ≡ length_by half)
  at_half e None n is = absurd (none-some n is)
  at_half e (Some half) n is = (half, refl, of_half e half n is)

  parts_by : (o : Option ℕ) (next : ℕ) → next_behind bytes a o ≡ Some next → (n : ℕ) × (o ≡ Some n) × (next ≡ a + n)
  parts_by None next is = absurd (none-some next is)
  parts_by (Some n) next is = (n, refl, sym (cond_some (is_code bytes (a + n)) (a + n) next is).1)

  -- what control goes on to stands behind the instruction
  next_at : (next : ℕ) → next_of bytes a ≡ Some next → (half : ℕ) × (half_at bytes a ≡ Some half) × (next ≡ a + length_by half)
  next_at next is =
      let parts = parts_by (straight_length_at bytes a) next is in
      let found = at_half (extensions_of bytes) (half_at bytes a) parts.0 parts.1 in
      (found.0, found.1, parts.2 ∙ ap (λ n. a + n) found.2)

some_length : (half : ℕ) → 0 < length_by half
some_length half = cond_both (half % 4 == 3) 4 2 (λ n. 0 < n) (λ _. omega arith) (λ _. omega arith)

-- ---- by how far the chain reaches

module _ (bytes : List ℕ) where
  next_ahead : (a next : ℕ) → next_of bytes a ≡ Some next → a < next
  next_ahead a next is = let found = next_at bytes a next is in omega (arith, found.2, some_length found.0)

  end_ahead : {a k : ℕ} → IsChainEnd bytes a k → a ≤ k
  end_ahead (IsChainEnd.here none) = omega arith
  end_ahead (IsChainEnd.on {a = a} {next = next} goes rest) = omega (arith, next_ahead a next goes, end_ahead rest)

  ends_at : {a k : ℕ} → IsChainEnd bytes a k → k ≤ a → next_of bytes a ≡ None
  ends_at (IsChainEnd.here none) low = none
  ends_at (IsChainEnd.on {a = a} {next = next} goes rest) low = absurd (omega (arith, low, next_ahead a next goes, end_ahead rest))

  goes_on : {a k : ℕ} → IsChainEnd bytes a k → a < k → (next : ℕ) × (next_of bytes a ≡ Some next)
  goes_on (IsChainEnd.here none) ahead = absurd (omega (arith, ahead))
  goes_on (IsChainEnd.on {a = a} {next = next} goes rest) ahead = (next, goes)

  module _ (a reach : ℕ) (end : IsChainEnd bytes a (a + 2 * reach)) where
    -- a chain that reaches no further ends there
    pub no_next : reach ≡ 0 → None ≡ next_of bytes a
    no_next none = sym (ends_at end (omega (arith, none)))

    -- else control goes on behind the instruction
    module _ (half : ℕ) (some : 0 < reach) (there : half_at bytes a ≡ Some half) where
      pub some_next : Some (a + length_by half) ≡ next_of bytes a
      some_next =
          let goes = goes_on end (omega (arith, some)) in
          let found = next_at bytes a goes.0 goes.1 in
          let same : half ≡ found.0 = same_Some half found.0 (sym there ∙ found.1) in
          ap (λ h. Some (a + length_by h)) same ∙ ap Some (sym found.2) ∙ sym goes.1

      -- which lies in memory
      pub next_below : IsImage bytes → a + length_by half < 2 ^ 64
      next_below accepted = code_below bytes accepted (a + length_by half) (next_code bytes a (a + length_by half) (sym some_next))
