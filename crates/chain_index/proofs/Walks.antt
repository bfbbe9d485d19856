-- A walk along a chain of a code section.
use Rattle.std.proofs.Common.{◌≡◌, ℕ, ◌+◌, ◌-◌, ◌*◌, ◌/◌, ◌<◌, ◌≤◌, ◌⊎◌, List, take, drop, Option, Some, None, true, sym, ap, ◌∙◌, subst, arith, inl, inr}
use Rattle.elf_image.specs.declared.section.Section.{Section}
use Rattle.std.specs.Prelude.{IfSome}
use Rattle.std.proofs.lemmas.Bool.{cond-true}
use Rattle.elf_image.specs.Architecture.{extensions_of}
use Rattle.elf_image.specs.Code.{is_code}
use Rattle.rv_flow.specs.Straight.{straight_length_at}
use Rattle.chain_index.specs.Chain.{next_behind, next_of, IsChainEnd}
use Rattle.chain_index.specs.Found.{IsCodeOf}
use Rattle.chain_index.specs.Inner.{ReachesFrom, IsReach, reach_over, halfwords}
use Rattle.chain_index.proofs.Passes.{IsLengthAt, length_is, long_inside, over_first, short_or_long}
use Rattle.chain_index.proofs.CodeSections.{code-half}

-- The walk from halfword i of the section has come to the one with the number at: what its chain ends at
-- is the end of that of i.
pub record IsOnChain (bytes : List ℕ) (s : Section) (i at : ℕ) : Type 0 where
  pub from : i ≤ at
  pub inside : at < s.size / 2
  pub on : (k : ℕ) → IsChainEnd bytes (s.address + 2 * at) k → IsChainEnd bytes (s.address + 2 * i) k

module _ (bytes : List ℕ) (s : Section) (of : IsCodeOf bytes s) (i at : ℕ) (so_far : IsOnChain bytes s i at)
    (n : Option ℕ)
    (is_length : IsLengthAt (extensions_of bytes) (take s.size (drop s.offset bytes)) at n) where
  -- the walk goes on to the next halfword of the chain in the section
  goes_to : (m : Option ℕ) (next : ℕ) → straight_length_at bytes (s.address + 2 * at) ≡ m → IfSome m (λ k. (k ≡ 2) ⊎ (k ≡ 4)) → next ≡ at + halfwords m → at < next → next < s.size / 2
      → next_of bytes (s.address + 2 * at) ≡ Some (s.address + 2 * next)
  goes_to None next is sizes by ahead inside = absurd (omega arith)
  goes_to (Some k) next is sizes by ahead inside =
      let place : s.address + 2 * at + k ≡ s.address + 2 * next = behind k next sizes by in
      let there : is_code bytes (s.address + 2 * at + k) ≡ true = subst (λ a. is_code bytes a ≡ true) (sym place) (code-half bytes s of next (omega arith)) in
      ap (next_behind bytes (s.address + 2 * at)) is ∙ cond-true (is_code bytes (s.address + 2 * at + k)) (Some (s.address + 2 * at + k)) None there ∙ ap Some place
    where
      behind : (k next : ℕ) → (k ≡ 2) ⊎ (k ≡ 4) → next ≡ at + k / 2 → s.address + 2 * at + k ≡ s.address + 2 * next
      behind k next (inl two) by = omega arith
      behind k next (inr four) by = omega arith

  pub walk_on : (next : ℕ) → next ≡ at + halfwords n → at < next → next < s.size / 2 → IsOnChain bytes s i next
  walk_on next by ahead inside =
      let goes = goes_to n next (length_is bytes s of at n so_far.inside is_length) (short_or_long n _ is_length.sizes) by ahead inside in
      record { from = omega (arith, so_far.from); inside = inside; on = λ k end. so_far.on k (IsChainEnd.on goes end) }

  -- the walk ends: nothing goes straight on from there in the section
  module _ (behind : Option ℕ) (there : ReachesFrom bytes s (s.size / 2) behind) (out : (halfwords n ≡ 0) ⊎ (s.size / 2 ≤ at + halfwords n)) where
    short_out : n ≡ Some 2 → at + 1 ≡ s.size / 2
    short_out two =
        let size : halfwords n ≡ 1 = ap halfwords two in
        elim out [
          | inl none ↦ absurd (omega arith)
          | inr far ↦ omega (arith, so_far.inside)
        ]

    long_out : n ≡ Some 4 → at + 2 ≡ s.size / 2
    long_out four =
        let size : halfwords n ≡ 2 = ap halfwords four in
        elim out [
          | inl none ↦ absurd (omega arith)
          | inr far ↦ omega (arith, long_inside bytes s of at n is_length four)
        ]

    pub reach_there : IsReach bytes s at (reach_over n behind behind)
    reach_there =
        over_first bytes s of at n behind behind so_far.inside is_length
        (λ two. subst (λ h. ReachesFrom bytes s h behind) (sym (short_out two)) there)
        (λ four. subst (λ h. ReachesFrom bytes s h behind) (sym (long_out four)) there)

    pub walk_ends : (reach : ℕ) → reach ≡ at - i + reach_over n behind behind → IsReach bytes s i reach
    walk_ends reach is =
        let from = so_far.from in
        let far : s.address + 2 * at + 2 * reach_over n behind behind ≡ s.address + 2 * i + 2 * reach = omega arith in
        record {
          end = subst (IsChainEnd bytes (s.address + 2 * i)) far (so_far.on (s.address + 2 * at + 2 * reach_over n behind behind) reach_there.end);
          fits = omega (arith, reach_there.fits);
        }
