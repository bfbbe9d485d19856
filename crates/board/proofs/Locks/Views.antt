-- The shares in the views of a table's seats, for a rule that is kept by each step.
use Rattle.std.proofs.Common.{◌≡◌, ◌≢◌, ℕ, zero, suc, List, [], ◌∷◌, ◌++◌, Some, set, map, refl, sym, ap, ◌∙◌, subst}
use Rattle.std.specs.Prelude.{slice_get}
use Rattle.std.proofs.lemmas.List.{map-set, map-append}
use mathlib.Core.Option.{some, some-injective, some-ne-none}
use lib.ListN.{get_elem?}
use Rattle.board.specs.Locks.Share.{Share, nothing, half, both, IsWhole, IsSpent, AddUpToOne}
use Rattle.board.proofs.Locks.Sums.{splits, joins, leaves_nothing}

module _ {V : Type 0} (share : V → Share) where
  pub share_at : (vs : List V) (i : ℕ) (v : V) → get_elem? vs i ≡ some v → slice_get (map share vs) i ≡ Some (share v)
  share_at [] i v e = absurd (some-ne-none v (sym e))
  share_at (x ∷ xs) zero v e = ap (λ (y : V). Some (share y)) (some-injective x v e)
  share_at (x ∷ xs) (suc i) v e = share_at xs i v e

  map_kept : (vs : List V) (i : ℕ) (v w : V) → get_elem? vs i ≡ some v → share w ≡ share v → map share (set vs i w) ≡ map share vs
  map_kept [] i v w e same = refl
  map_kept (x ∷ xs) zero v w e same = ap (λ (k : Share). k ∷ map share xs) (same ∙ ap share (sym (some-injective x v e)))
  map_kept (x ∷ xs) (suc i) v w e same = ap (λ (ks : List Share). share x ∷ ks) (map_kept xs i v w e same)

  -- a step that leaves the seat's share
  pub still_add_up : (vs : List V) (i : ℕ) (v w : V) → get_elem? vs i ≡ some v → share w ≡ share v → AddUpToOne (map share vs) → AddUpToOne (map share (set vs i w))
  still_add_up vs i v w at same all = subst AddUpToOne (sym (map_kept vs i v w at same)) all

  -- the seat keeps half, and a new one has the other
  pub split_adds_up : (vs : List V) (i : ℕ) (v w u : V) → get_elem? vs i ≡ some v → share w ≡ half (share v) → share u ≡ half (share v) → AddUpToOne (map share vs) → AddUpToOne (map share (set vs i w ++ u ∷ []))
  split_adds_up vs i v w u at left right all =
      let same : map share (set vs i w ++ u ∷ []) ≡ set (map share vs) i (half (share v)) ++ half (share v) ∷ [] =
      map-append share (set vs i w) (u ∷ []) ∙ (ap (λ (ks : List Share). ks ++ share u ∷ []) (map-set share vs i w ∙ ap (λ (k : Share). set (map share vs) i k) left) ∙ ap (λ (k : Share). set (map share vs) i (half (share v)) ++ k ∷ []) right) in
      subst AddUpToOne (sym same) (splits (map share vs) i (share v) (share_at vs i v at) all)

  -- the seat has both shares, and the other is spent
  pub join_adds_up : (vs : List V) (i j : ℕ) (v u w spent : V) → get_elem? vs i ≡ some v → get_elem? vs j ≡ some u → j ≢ i → share w ≡ both (share v) (share u) → share spent ≡ nothing → AddUpToOne (map share vs) → AddUpToOne (map share (set (set vs i w) j spent))
  join_adds_up vs i j v u w spent at there apart sum none all =
      let same : map share (set (set vs i w) j spent) ≡ set (set (map share vs) i (both (share v) (share u))) j nothing =
      map-set share (set vs i w) j spent ∙ (ap (λ (ks : List Share). set ks j (share spent)) (map-set share vs i w ∙ ap (λ (k : Share). set (map share vs) i k) sum) ∙ ap (λ (k : Share). set (set (map share vs) i (both (share v) (share u))) j k) none) in
      subst AddUpToOne (sym same) (joins (map share vs) i j (share v) (share u) (share_at vs i v at) (share_at vs j u there) apart all)

  -- beside a seat with the whole share every other one is spent
  pub others_are_spent : (vs : List V) (i j : ℕ) (v u : V) → get_elem? vs i ≡ some v → get_elem? vs j ≡ some u → j ≢ i → AddUpToOne (map share vs) → IsWhole (share v) → IsSpent (share u)
  others_are_spent vs i j v u at there apart all one =
      leaves_nothing (map share vs) i j (share v) (share u) (share_at vs i v at) (share_at vs j u there) apart all one
