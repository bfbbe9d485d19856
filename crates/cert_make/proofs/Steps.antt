-- Tables of ranks, each made from the one before it: a step settles the next rank, so that as many
-- steps as there are lines settle all.
use Rattle.std.proofs.Common.{◌≡◌, ℕ, zero, suc, ◌<◌, ◌≤◌, ◌⊎◌, List, length, get_or, map, refl, sym, subst, ap, ◌∙◌, arith, inl, inr}
use Rattle.std.specs.Prelude.{◌↔◌, All, Contains}
use Rattle.std.proofs.lemmas.Bool.{cases_eq, cases_lt, cases_order}
use Rattle.std.proofs.lemmas.List.{get_or-map, length-map}
use Rattle.std.proofs.lemmas.List.Elements.{All-contains, All-map, Contains-get_or}
use Rattle.cert_make.proofs.Gapless.{all_below_count}

-- What has a rank below the next number is what has a reason by those with a rank below this one.
pub record AreRanks (Among Good : ℕ → Type 0) (Reason : (ℕ → Type 0) → ℕ → Type 0) (Below : ℕ → ℕ → Type 0) : Type 1 where
  pub weaker : (A B : ℕ → Type 0) → ((j : ℕ) → A j → Good j) → ((j : ℕ) → Among j → A j → B j) → (k : ℕ) → Among k → Reason A k → Reason B k
  pub none : (k : ℕ) → Below 0 k → ⊥
  pub next : (r k : ℕ) → Below (suc r) k ↔ Reason (Below r) k
  pub good : (r k : ℕ) → Below r k → Good k
  pub ranked : (k : ℕ) → Among k → (r : ℕ) × Below r k

-- The table has one line for each of these addresses, and no others.
pub record IsTable {X : Type 0} (at : X → ℕ) (Among : ℕ → Type 0) (lines : List X) : Type 0 where
  pub among : (l : X) → Contains lines l → Among (at l)
  pub complete : (k : ℕ) → Among k → (l : X) × Contains lines l × (at l ≡ k)
  pub one_line : (l m : X) → Contains lines l → Contains lines m → at l ≡ at m → l ≡ m

-- A line lists this address with a rank below this one.
abbrev pub ListsBelow : {X : Type 0} → (X → ℕ) → (X → ℕ) → List X → ℕ → ℕ → Type 0
ListsBelow {X} at rank lines r k = (l : X) × Contains lines l × (at l ≡ k) × (rank l < r)

-- The line has the least rank for which there is a reason by those that have a rank below it.
pub record HasLeast {X : Type 0} (at rank : X → ℕ) (Reason : (ℕ → Type 0) → ℕ → Type 0) (Under : ℕ → ℕ → Type 0) (l : X) : Type 0 where
  pub has : Reason (Under (rank l)) (at l)
  pub least : (r : ℕ) → r < rank l → Reason (Under r) (at l) → ⊥

-- The ranks below this one are the right ones.
abbrev pub SettledTo : (ℕ → Type 0) → (ℕ → ℕ → Type 0) → (ℕ → ℕ → Type 0) → ℕ → Type 0
SettledTo Among Below Under i = (r k : ℕ) → r ≤ i → Among k → Under r k ↔ Below r k

module _ {X : Type 0} (at rank : X → ℕ) (Among Good : ℕ → Type 0) (Reason : (ℕ → Type 0) → ℕ → Type 0) (Below : ℕ → ℕ → Type 0) (Under : List X → ℕ → ℕ → Type 0)
    (ranks : AreRanks Among Good Reason Below) (says : (lines : List X) (r k : ℕ) → Under lines r k ↔ ListsBelow at rank lines r k) where
  nothing_below : (lines : List X) (k : ℕ) → Under lines 0 k ↔ Below 0 k
  nothing_below lines k = (
    λ under. let lt = ((says lines 0 k).0 under).3 in absurd (omega (arith, lt)),
    λ below. absurd (ranks.none k below),
  )

  -- no rank lies below 0
  pub none_settled : (lines : List X) → SettledTo Among Below (Under lines) 0
  none_settled lines r k le among =
      let zero_is : 0 ≡ r = omega (arith, le) in
      subst (λ n. Under lines n k ↔ Below n k) zero_is (nothing_below lines k)

  module _ (lines : List X) (table : IsTable at Among lines) where
    listed_good : (r k : ℕ) → Under lines r k → Good k
    listed_good r k under =
        let found = (says lines r k).0 under in
        let ranked = ranks.ranked (at found.0) (table.among found.0 found.1) in
        subst Good found.2 (ranks.good ranked.0 (at found.0) ranked.1)

    more : (r s k : ℕ) → r ≤ s → Under lines r k → Under lines s k
    more r s k le under =
        let found = (says lines r k).0 under in
        (says lines s k).1 (found.0, found.1, found.2, omega (arith, le, found.3))

    reason_by : (r k : ℕ) → ((j : ℕ) → Among j → Below r j → Under lines r j) → Among k → Below (suc r) k → Reason (Under lines r) k
    reason_by r k there among below = ranks.weaker (Below r) (Under lines r) (ranks.good r) there k among ((ranks.next r k).0 below)

    -- whatever the ranks of the table are, each of its addresses has a reason by its lines
    pub has_reason : (most : ℕ) → All (λ l. rank l < most) lines → (k : ℕ) → Among k → Reason (Under lines most) k
    has_reason most low k among = from_rank (ranks.ranked k among).0 (ranks.ranked k among).1
      where
        listed : (j : ℕ) → Among j → Under lines most j
        listed j here =
            let found = table.complete j here in
            (says lines most j).1 (found.0, found.1, found.2, All-contains (λ l. rank l < most) lines found.0 low found.1)

        from_rank : (r : ℕ) → Below r k → Reason (Under lines most) k
        from_rank zero below = absurd (ranks.none k below)
        from_rank (suc r) below = ranks.weaker (Below r) (Under lines most) (ranks.good r) (λ j here h. listed j here) k among ((ranks.next r k).0 below)

    module _ (i : ℕ) (settled : SettledTo Among Below (Under lines) i) where
      -- one step
      pub step_settles : (next : List X) → IsTable at Among next → All (HasLeast at rank Reason (Under lines)) next → SettledTo Among Below (Under next) (suc i)
      step_settles next others step zero k le among = nothing_below next k
      step_settles next others step (suc s) k le among = (to, from)
        where
          low : s ≤ i
          low = omega (arith, le)

          to : Under next (suc s) k → Below (suc s) k
          to under =
              let found = (says next (suc s) k).0 under in
              let l = found.0 in
              let lt : rank l < suc s = found.3 in
              let le_s : rank l ≤ s = omega (arith, lt) in
              let line : HasLeast at rank Reason (Under lines) l = All-contains (HasLeast at rank Reason (Under lines)) next l step found.1 in
              let here : Reason (Under lines (rank l)) k = subst (Reason (Under lines (rank l))) found.2 line.has in
              (ranks.next s k).1 (ranks.weaker (Under lines (rank l)) (Below s) (listed_good (rank l)) (λ j there u. (settled s j low there).0 (more (rank l) s j le_s u)) k among here)

          from : Below (suc s) k → Under next (suc s) k
          from below =
              let found = others.complete k among in
              let l = found.0 in
              let line : HasLeast at rank Reason (Under lines) l = All-contains (HasLeast at rank Reason (Under lines)) next l step found.1 in
              let reason : Reason (Under lines s) k = reason_by s k (λ j there b. (settled s j low there).1 b) among below in
              elim (cases_lt s (rank l)) [
                | inl lt ↦ absurd (line.least s lt (subst (Reason (Under lines s)) (sym found.2) reason))
                | inr le_s ↦ (says next (suc s) k).1 (l, found.1, found.2, omega (arith, le_s))
              ]

      -- if no line has this rank, none has a greater one
      no_gap : (j : ℕ) → j < i → (Contains (map rank lines) j → ⊥) → All (λ r. r < j) (map rank lines)
      no_gap j lt missing = All-map (λ r. r < j) rank lines low
        where
          skip : (k : ℕ) → Among k → Below (suc j) k → Below j k
          skip k among below =
              let found = (says lines (suc j) k).0 ((settled (suc j) k (omega (arith, lt)) among).1 below) in
              let l = found.0 in
              let n = found.1.0 in
              let other : rank l ≡ j → ⊥ = λ same. missing (n, omega (arith, found.1.1, length-map lines rank), get_or-map rank lines n l j found.1.1 ∙ ap rank found.1.2 ∙ same) in
              let below_next : rank l < suc j = found.3 in
              elim (cases_eq (rank l) j) [
                | inl same ↦ absurd (other same)
                | inr apart ↦ (settled j k (omega (arith, lt)) among).0 ((says lines j k).1 (l, found.1, found.2, omega (arith, below_next, apart)))
              ]

          down : (r k : ℕ) → Among k → Below r k → Below j k
          down zero k among below = absurd (ranks.none k below)
          down (suc r) k among below =
              skip k among ((ranks.next j k).1 (ranks.weaker (Below r) (Below j) (ranks.good r) (down r) k among ((ranks.next r k).0 below)))

          low : All (λ l. rank l < j) lines
          low n d within =
              let l = get_or lines n d in
              let listed = Contains-get_or lines n d within in
              let among = table.among l listed in
              let ranked = ranks.ranked (at l) among in
              let found = (says lines j (at l)).0 ((settled j (at l) (omega (arith, lt)) among).1 (down ranked.0 (at l) among ranked.1)) in
              subst (λ m. rank m < j) (table.one_line found.0 l found.1 listed found.2) found.3

    -- after as many steps as there are lines
    module _ (settled : SettledTo Among Below (Under lines) (length lines)) where
      pub all_low : All (λ l. rank l < length lines) lines
      all_low n d within =
          let many : length (map rank lines) ≡ length lines = length-map lines rank in
          let low = all_below_count (map rank lines) (λ j lt missing. no_gap (length lines) settled j (omega (arith, lt, many)) missing) in
          let here : get_or (map rank lines) n (rank d) < length (map rank lines) = low n (rank d) (omega (arith, within, many)) in
          let is : get_or (map rank lines) n (rank d) ≡ rank (get_or lines n d) = get_or-map rank lines n d (rank d) within in
          omega (arith, here, is, many)

      -- one more step leaves the ranks as they are
      pub ranks_stay : (next : List X) → IsTable at Among next → All (HasLeast at rank Reason (Under lines)) next → length next ≡ length lines → ((n : ℕ) (d : X) → n < length next → at (get_or next n d) ≡ at (get_or lines n d))
          → (n : ℕ) (d : X) → n < length next → rank (get_or next n d) ≡ rank (get_or lines n d)
      ranks_stay next others step long same n d within = from_order (cases_order (rank new) (rank old))
        where
          old : X
          old = get_or lines n d

          new : X
          new = get_or next n d

          old_listed : Contains lines old
          old_listed = Contains-get_or lines n d (omega (arith, within, long))

          new_listed : Contains next new
          new_listed = Contains-get_or next n d within

          here : at new ≡ at old
          here = same n d within

          among : Among (at old)
          among = table.among old old_listed

          low : rank old < length lines
          low = All-contains (λ l. rank l < length lines) lines old all_low old_listed

          stay : (r : ℕ) → r ≤ length lines → Under lines r (at old) ↔ Under next r (at old)
          stay r le =
              let before = settled r (at old) le among in
              let after = step_settles (length lines) settled next others step r (at old) (omega (arith, le)) among in
              (λ under. after.1 (before.0 under), λ under. before.1 (after.0 under))

          old_below : (r : ℕ) → rank old < r → Under lines r (at old)
          old_below r lt = (says lines r (at old)).1 (old, old_listed, refl, lt)

          new_below : (r : ℕ) → rank new < r → Under next r (at old)
          new_below r lt = (says next r (at old)).1 (new, new_listed, here, lt)

          from_order : (rank new ≡ rank old) ⊎ ((rank new < rank old) ⊎ (rank old < rank new)) → rank new ≡ rank old
          from_order (inl equal) = equal
          from_order (inr (inl lt)) =
              let found = (says lines (rank old) (at old)).0 ((stay (rank old) (omega (arith, low))).1 (new_below (rank old) lt)) in
              let less : rank old < rank old = subst (λ m. rank m < rank old) (table.one_line found.0 old found.1 old_listed found.2) found.3 in
              absurd (omega (arith, less))
          from_order (inr (inr lt)) =
              let found = (says next (suc (rank old)) (at old)).0 ((stay (suc (rank old)) (omega (arith, low))).0 (old_below (suc (rank old)) (omega arith))) in
              let less : rank new < suc (rank old) = subst (λ m. rank m < suc (rank old)) (others.one_line found.0 new found.1 new_listed (found.2 ∙ sym here)) found.3 in
              absurd (omega (arith, less, lt))
