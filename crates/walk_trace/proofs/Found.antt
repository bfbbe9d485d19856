-- The block that starts at an address, as a binary search finds it.
use Rattle.std.proofs.Common.{◌≡◌, ℕ, ◌<◌, ◌≤◌, List, length, get_or, Err, Some, None, false, sym, ap, ◌∙◌, inl, inr, arith}
use Rattle.std.specs.Prelude.{◌==◌}
use Rattle.std.specs.List.{AllPairs, Contains}
use Rattle.std.specs.List.Sorted.{IsNonDecreasingBy, IsBinarySearchResult}
use Rattle.std.specs.Ordering.{nat_cmp, ordering_index}
use Rattle.std.proofs.lemmas.Bool.{cases_lt, eq-eqb, eqb-true}
use Rattle.std.proofs.lemmas.Bool.Decides.{nat_tests}
use Rattle.std.proofs.lemmas.Cmp.{ranked}
use Rattle.cfg_model.specs.declared.graph.Block.{Block}
use Rattle.cfg_model.specs.Graph.Graph.{BlockBefore}
use Rattle.elf_image.proofs.Finds.{find-at, find-cases}
use Rattle.edge_cover.proofs.Found.{starts_rise}
use Rattle.walk_trace.specs.Trace.{block_at}

module _ (blocks : List Block) (order : AllPairs BlockBefore blocks) (a : ℕ) where
  comparisons_rise : IsNonDecreasingBy (λ (b : Block). ordering_index (nat_cmp b.start a)) blocks
  comparisons_rise = λ i j d up within.
      let less : (get_or blocks i d).start ≤ (get_or blocks j d).start = starts_rise blocks order i j d up within in
      grind (arith, nat_tests)

  other : (n : ℕ) → n < a → (n == a) ≡ false
  other n less = grind (arith, nat_tests)

  -- the block at the place that the search gives is the one
  pub found_block : (i : ℕ) (d : Block) → i < length blocks → (get_or blocks i d).start ≡ a → Some (get_or blocks i d) ≡ block_at blocks a
  found_block i d within is =
      sym (find-at (λ b. b.start == a) blocks i d within
      (λ k below. let less : (get_or blocks k d).start < (get_or blocks i d).start = order k i d below within in other (get_or blocks k d).start (omega arith))
      (eq-eqb _ a is))

  -- where it gives the place between two blocks, there is none
  none_at : (i : ℕ) → IsBinarySearchResult (λ (b : Block). nat_cmp b.start a) blocks (Err i) → (b : Block) → Contains blocks b → b.start ≡ a → ⊥
  none_at i parted b h e =
      let at : (get_or blocks h.0 b).start ≡ a = ap (λ (x : Block). x.start) h.2 ∙ e in
      elim (cases_lt h.0 i) [
        | inl lt ↦ let less : (get_or blocks h.0 b).start < a = ranked _ a _ (sym ((parted comparisons_rise).0 h.0 b (omega arith) lt)) in omega arith
        | inr le ↦ let more : a < (get_or blocks h.0 b).start = ranked _ a _ (sym ((parted comparisons_rise).1 h.0 b le h.1)) in omega arith
      ]

  pub found_none : (i : ℕ) → IsBinarySearchResult (λ (b : Block). nat_cmp b.start a) blocks (Err i) → None ≡ block_at blocks a
  found_none i parted =
      elim (find-cases (λ b. b.start == a) blocks) [
        | inl none ↦ sym none.0
        | inr some ↦ absurd (none_at i parted some.0 some.3 (eqb-true some.0.start a some.2))
      ]
