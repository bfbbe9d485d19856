-- Edges in order, and those that lead from one address to another.
use Rattle.std.proofs.Common.{◌≡◌, ℕ, ◌<◌, ◌≤◌, ◌⊎◌, Bool, true, false, List, length, get_or, ltb, eqb, refl, sym, ap, ◌∙◌, subst, inl, inr, arith}
use Rattle.std.specs.Prelude.{◌↔◌, ◌||◌, ◌&&◌, AllPairs, IsTrue}
use Rattle.std.specs.List.Sorted.{IsPartitionedBy, IsPartitionPoint}
use Rattle.std.proofs.lemmas.Bool.{cases_eq, cases_lt, eqb-true, eq-eqb, lt-ltb, ltb-true}
use Rattle.std.proofs.lemmas.List.{get_or_default}
use Rattle.cfg_model.specs.declared.graph.Edge.{Edge}
use Rattle.cfg_model.specs.Graph.Graph.{EdgeBefore}
use Rattle.cert_check.specs.Inner.Ways.{HasEdge, comes_before}
use Rattle.cert_check.proofs.Each.{false_true}

or_cases : (a b c : Bool) → IsTrue (a || (b && c)) → IsTrue a ⊎ (IsTrue b × IsTrue c)
or_cases true b c e = inl refl
or_cases false true true e = inr (refl, refl)
or_cases false true false e = false_true e
or_cases false false c e = false_true e

or_left : (a b : Bool) → IsTrue a → IsTrue (a || b)
or_left true b e = refl
or_left false b e = false_true e

or_right : (a b c : Bool) → IsTrue b → IsTrue c → IsTrue (a || (b && c))
or_right true b c p q = refl
or_right false true true p q = refl
or_right false true false p q = false_true q
or_right false false c p q = false_true p

abbrev pub Before : ℕ → ℕ → Edge → Type 0
Before from to edge = (edge.from < from) ⊎ ((edge.from ≡ from) × (edge.to < to))

pub is_before : (from to : ℕ) (edge : Edge) → comes_before from to edge ≡ true → Before from to edge
is_before from to edge e =
    elim (or_cases (ltb edge.from from) (eqb edge.from from) (ltb edge.to to) e) [
      | inl less ↦ inl (ltb-true edge.from from less)
      | inr (same, less) ↦ inr (eqb-true edge.from from same, ltb-true edge.to to less)
    ]

pub before_is : (from to : ℕ) (edge : Edge) → Before from to edge → comes_before from to edge ≡ true
before_is from to edge (inl less) = or_left (ltb edge.from from) (eqb edge.from from && ltb edge.to to) (lt-ltb edge.from from less)
before_is from to edge (inr (same, less)) = or_right (ltb edge.from from) (eqb edge.from from) (ltb edge.to to) (eq-eqb edge.from from same) (lt-ltb edge.to to less)

-- what comes before such an edge comes before them
earlier : (from to : ℕ) (a b : Edge) → EdgeBefore a b → Before from to b → Before from to a
earlier from to a b (inl less) (inl low) = inl (omega arith)
earlier from to a b (inl less) (inr (same, low)) = inl (omega arith)
earlier from to a b (inr (alike, rest)) (inl low) = inl (omega arith)
earlier from to a b (inr (alike, inl less)) (inr (same, low)) = inr (alike ∙ same, omega arith)
earlier from to a b (inr (alike, inr (too, rank))) (inr (same, low)) = inr (alike ∙ same, omega arith)

module _ (edges : List Edge) (up : AllPairs EdgeBefore edges) (from to : ℕ) where
  pub parted : IsPartitionedBy (comes_before from to) edges
  parted i j d le within e =
      elim (cases_eq i j) [
        | inl same ↦ subst (λ k. comes_before from to (get_or edges k d) ≡ true) (sym same) e
        | inr ne ↦ before_is from to (get_or edges i d) (earlier from to (get_or edges i d) (get_or edges j d) (up i j d (omega arith) within) (is_before from to (get_or edges j d) e))
      ]

  abbrev Point : ℕ → Type 0
  Point = IsPartitionPoint (λ y. comes_before from to y ≡ true) (λ y. comes_before from to y ≡ false) edges

  not_itself : (edge : Edge) → edge.from ≡ from → edge.to ≡ to → comes_before from to edge ≡ true → ⊥
  not_itself edge leaves enters e = elim (is_before from to edge e) [
    | inl less ↦ omega arith
    | inr (same, less) ↦ omega arith
  ]

  -- such an edge lies at the point, or right after it among those like it
  at_point : (edge : Edge) (i k : ℕ) (d : Edge) → Point i → i ≤ k → k < length edges → get_or edges k d ≡ edge → edge.from ≡ from → edge.to ≡ to → ((get_or edges i d).from ≡ from) × ((get_or edges i d).to ≡ to)
  at_point edge i k d point le within is leaves enters =
      elim (cases_eq i k) [
        | inl same ↦
            let here : get_or edges i d ≡ edge = ap (λ n. get_or edges n d) same ∙ is in
            (ap (λ (e : Edge). e.from) here ∙ leaves, ap (λ (e : Edge). e.to) here ∙ enters)
        | inr ne ↦
            let before : EdgeBefore (get_or edges i d) edge = subst (EdgeBefore (get_or edges i d)) is (up i k d (omega arith) within) in
            let late : comes_before from to (get_or edges i d) ≡ false = point.1 i d (omega arith) (omega arith) in
            found (get_or edges i d) before (λ early. false_true (sym late ∙ before_is from to (get_or edges i d) early))
      ]
    where
      found : (a : Edge) → EdgeBefore a edge → (Before from to a → ⊥) → (a.from ≡ from) × (a.to ≡ to)
      found a (inl less) none = absurd (none (inl (omega arith)))
      found a (inr (alike, inl less)) none = absurd (none (inr (alike ∙ leaves, omega arith)))
      found a (inr (alike, inr (too, rank))) none = (alike ∙ leaves, too ∙ enters)

  -- so the one at the point tells
  pub found_at : (i : ℕ) (d : Edge) (b : Bool) → i < length edges → Point i → IsTrue b ↔ (((get_or edges i d).from ≡ from) × ((get_or edges i d).to ≡ to)) → IsTrue b ↔ HasEdge edges from to
  found_at i d b within point exact = (
    λ e. let same = exact.0 e in
        record { edge = get_or edges i d; listed = (i, within, get_or_default edges i (get_or edges i d) d within); leaves = same.0; enters = same.1 },
    λ h. elim (cases_lt h.listed.0 i) [
      | inl lt ↦ absurd (not_itself h.edge h.leaves h.enters (subst (λ (e : Edge). comes_before from to e ≡ true) h.listed.2 (point.0 h.listed.0 h.edge (omega arith) lt)))
      | inr le ↦
          let same = at_point h.edge i h.listed.0 h.edge point le h.listed.1 h.listed.2 h.leaves h.enters in
          let is : get_or edges i h.edge ≡ get_or edges i d = get_or_default edges i h.edge d within in
          exact.1 (sym (ap (λ (e : Edge). e.from) is) ∙ same.0, sym (ap (λ (e : Edge). e.to) is) ∙ same.1)
    ],
  )

  pub none_at : (i : ℕ) → length edges ≤ i → Point i → IsTrue (ltb i (length edges)) ↔ HasEdge edges from to
  none_at i le point = (
    λ e. let lt : i < length edges = ltb-true i (length edges) e in absurd (omega arith),
    λ h. absurd (not_itself h.edge h.leaves h.enters (subst (λ (e : Edge). comes_before from to e ≡ true) h.listed.2 (point.0 h.listed.0 h.edge (omega arith) (omega (arith, h.listed.1, le))))),
  )
