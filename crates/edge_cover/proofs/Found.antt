-- What a binary search finds among blocks and among edges in order.
use Rattle.std.proofs.Common.{◌≡◌, ℕ, ◌<◌, ◌≤◌, ◌⊎◌, true, false, List, length, get_or, ltb, eqb, Bool, Some, None, refl, sym, ap, ◌∙◌, subst, inl, inr, arith}
use Rattle.std.specs.Prelude.{◌&&◌, ◌||◌, slice_get}
use Rattle.std.specs.List.{AllPairs, find}
use Rattle.std.specs.List.Sorted.{IsPartitionedBy, IsPartitionPoint, IsNonDecreasingBy}
use Rattle.std.proofs.lemmas.Bool.{cases_order, ltb-true, lt-ltb, eqb-true, eq-eqb}
use Rattle.std.proofs.Math.Bool.{or-true}
use Rattle.std.proofs.lemmas.Option.{slice_get_past, slice_get-get_or}
use Rattle.std.proofs.lemmas.List.Folds.{find_at}
use Rattle.std.proofs.lemmas.List.Sums.{position_or_len_is}
use Rattle.std.specs.Prelude.{Contains}
use Rattle.std.proofs.lemmas.List.{get_or_default}
use Rattle.std.proofs.lemmas.List.Elements.{Contains-get_or}
use Rattle.cfg_model.specs.declared.graph.Block.{Block}
use Rattle.cfg_model.specs.declared.graph.EndKind.TheVariants as end
use Rattle.cfg_model.specs.declared.graph.Edge.{Edge}
use Rattle.cfg_model.specs.Graph.Graph.{BlockBefore, EdgeBefore}
use Rattle.cfg_model.specs.declared.graph.EdgeKind.TheVariants.{Fall}
use Rattle.edge_cover.specs.Move.{joins}

-- blocks in order rise by where they start
pub starts_rise : (blocks : List Block) → AllPairs BlockBefore blocks → IsNonDecreasingBy (λ b. b.start) blocks
starts_rise blocks order i j d up within =
    elim (cases_order i j) [
      | inl same ↦ subst (λ k. (get_or blocks i d).start ≤ (get_or blocks k d).start) same (omega arith)
      | inr other ↦ elim other [
        | inl before ↦ let less : (get_or blocks i d).start < (get_or blocks j d).start = order i j d before within in omega arith
        | inr after ↦ absurd (omega arith)
      ]
    ]

abbrev pub nothing : Block
nothing = record { start = 0; end = 0; kind = end.Fall }

-- the block that is read at a place of a list
pub record IsAt (items blocks : List Block) (i : ℕ) : Type 0 where
  pub inside : i < length items
  pub listed : Contains blocks (get_or items i nothing)
  pub same : (d : Block) → get_or blocks i d ≡ get_or items i nothing

pub is_at : (items blocks : List Block) (i : ℕ) → items ≡ blocks → i < length blocks → IsAt items blocks i
is_at items blocks i is within =
    let inside : i < length items = subst (λ (l : List Block). i < length l) (sym is) within in
    record {
      inside = inside;
      listed = subst (λ (l : List Block). Contains l (get_or items i nothing)) is (Contains-get_or items i nothing inside);
      same = λ d. ap (λ (l : List Block). get_or l i d) (sym is) ∙ get_or_default items i d nothing inside;
    }

-- the edge comes before all edges between two blocks
abbrev pub comes_before : ℕ → ℕ → Edge → Bool
comes_before from to e = ltb e.from from || (eqb e.from from && ltb e.to to)

abbrev IsBefore : ℕ → ℕ → Edge → Type 0
IsBefore from to e = (e.from < from) ⊎ ((e.from ≡ from) × (e.to < to))

module _ (from to : ℕ) (e : Edge) where
  before_true : comes_before from to e ≡ true → IsBefore from to e
  before_true h = by (ltb e.from from) refl
    where
      by : (b : Bool) → ltb e.from from ≡ b → IsBefore from to e
      by true first = inl (ltb-true e.from from first)
      by false first = both (eqb e.from from) refl (subst (λ b. (b || (eqb e.from from && ltb e.to to)) ≡ true) first h)
        where
          both : (b : Bool) → eqb e.from from ≡ b → (b && ltb e.to to) ≡ true → IsBefore from to e
          both true same rest = inr (eqb-true e.from from same, ltb-true e.to to rest)
          both false same rest = cc

  true_before : IsBefore from to e → comes_before from to e ≡ true
  true_before (inl less) = rw (lt-ltb e.from from less) refl
  true_before (inr rest) = rw (eq-eqb e.from from rest.0, lt-ltb e.to to rest.1) (or-true (ltb e.from from))

  joins_true : joins from to e ≡ true → (e.from ≡ from) × (e.to ≡ to)
  joins_true h = by (eqb e.from from) refl h
    where
      by : (b : Bool) → eqb e.from from ≡ b → (b && eqb e.to to) ≡ true → (e.from ≡ from) × (e.to ≡ to)
      by true same rest = (eqb-true e.from from same, eqb-true e.to to rest)
      by false same rest = cc

  pub not_joined : ¬ ((e.from ≡ from) × (e.to ≡ to)) → joins from to e ≡ false
  not_joined none = by (joins from to e) refl
    where
      by : (b : Bool) → joins from to e ≡ b → b ≡ false
      by true h = absurd (none (joins_true h))
      by false h = refl

module _ (edges : List Edge) (order : AllPairs EdgeBefore edges) (from to : ℕ) where
  -- what comes before a later edge that comes before them does too
  pub partitioned : IsPartitionedBy (comes_before from to) edges
  partitioned i j d up within h =
      elim (cases_order i j) [
        | inl same ↦ subst (λ k. comes_before from to (get_or edges k d) ≡ true) (sym same) h
        | inr other ↦ elim other [
          | inl earlier ↦ true_before from to (get_or edges i d) (up_to (get_or edges i d) (get_or edges j d) (order i j d earlier within) (before_true from to (get_or edges j d) h))
          | inr after ↦ absurd (omega arith)
        ]
      ]
    where
      up_to : (a b : Edge) → EdgeBefore a b → IsBefore from to b → IsBefore from to a
      up_to a b (inl less) (inl first) = inl (omega arith)
      up_to a b (inl less) (inr rest) = inl (let e : b.from ≡ from = rest.0 in omega arith)
      up_to a b (inr later) (inl first) = inl (let e : a.from ≡ b.from = later.0 in omega arith)
      up_to a b (inr (same, inl less)) (inr rest) = inr (same ∙ rest.0, let below : b.to < to = rest.1 in omega arith)
      up_to a b (inr (same, inr more)) (inr rest) = inr (same ∙ rest.0, let below : b.to < to = rest.1 in let e : a.to ≡ b.to = more.0 in omega arith)

  module _ (i : ℕ) (within : i ≤ length edges) (split : IsPartitionPoint (λ e. comes_before from to e ≡ true) (λ e. comes_before from to e ≡ false) edges i) where
    -- no edge that comes before them is one of them
    none_before : (k : ℕ) (d : Edge) → k < i → joins from to (get_or edges k d) ≡ false
    none_before k d below =
        not_joined from to (get_or edges k d) (λ is. apart (get_or edges k d) (before_true from to (get_or edges k d) (split.0 k d (omega arith) below)) is)
      where
        apart : (e : Edge) → IsBefore from to e → ((e.from ≡ from) × (e.to ≡ to)) → ⊥
        apart e (inl less) is = let same : e.from ≡ from = is.0 in omega arith
        apart e (inr rest) is = let same : e.to ≡ to = is.1 in let less : e.to < to = rest.1 in omega arith

    found_at : (d : Edge) → i < length edges → joins from to (get_or edges i d) ≡ true → find (joins from to) edges ≡ Some (get_or edges i d)
    found_at d inside h =
        find_at (joins from to) edges
        ∙ ap (slice_get edges) (position_or_len_is (joins from to) edges i d within (λ k below. none_before k d below) (λ _. h))
        ∙ slice_get-get_or edges i d inside

    not_after : (d : Edge) → i < length edges → ¬ ((get_or edges i d).from ≡ from × (get_or edges i d).to ≡ to) → (k : ℕ) → i ≤ k → k < length edges → joins from to (get_or edges k d) ≡ false
    not_after d inside none k up below =
        elim (cases_order i k) [
          | inl same ↦ not_joined from to (get_or edges k d) (subst (λ j. ¬ ((get_or edges j d).from ≡ from × (get_or edges j d).to ≡ to)) same none)
          | inr other ↦ elim other [
            | inl earlier ↦ not_joined from to (get_or edges k d) (λ is. apart (get_or edges i d) (get_or edges k d) (order i k d earlier below) is none (λ before. clash (split.1 i d (omega arith) inside) (true_before from to (get_or edges i d) before)))
            | inr after ↦ absurd (omega arith)
          ]
        ]
      where
        clash : {b : Bool} → b ≡ false → b ≡ true → ⊥
        clash e f = cc

        apart : (a b : Edge) → EdgeBefore a b → (b.from ≡ from × b.to ≡ to) → ¬ (a.from ≡ from × a.to ≡ to) → ¬ IsBefore from to a → ⊥
        apart a b (inl less) is other below = below (inl (let e : b.from ≡ from = is.0 in omega arith))
        apart a b (inr (same, inl less)) is other below = below (inr (same ∙ is.0, let e : b.to ≡ to = is.1 in omega arith))
        apart a b (inr (same, inr more)) is other below = other (same ∙ is.0, more.0 ∙ is.1)

    found_none : ((d : Edge) → i < length edges → ¬ ((get_or edges i d).from ≡ from × (get_or edges i d).to ≡ to)) → (e : Edge) → find (joins from to) edges ≡ None
    found_none none e =
        find_at (joins from to) edges
        ∙ ap (slice_get edges) (position_or_len_is (joins from to) edges (length edges) e (omega arith) (λ k below. each k below) (λ below. absurd (omega arith)))
        ∙ slice_get_past edges (length edges) (omega arith)
      where
        each : (k : ℕ) → k < length edges → joins from to (get_or edges k e) ≡ false
        each k below =
            elim (cases_order k i) [
              | inl same ↦ not_after e (omega arith) (none e (omega arith)) k (omega arith) below
              | inr other ↦ elim other [
                | inl before ↦ none_before k e before
                | inr after ↦ not_after e (omega arith) (none e (omega arith)) k (omega arith) below
              ]
            ]

    -- what the search answers, by the edge at the place that it gives

    pub found_edge : (edge : Edge) → i < length edges → ((d : Edge) → edge ≡ get_or edges i d) → edge.from ≡ from → edge.to ≡ to → Some edge ≡ find (joins from to) edges
    found_edge edge inside at first second =
        let is : edge ≡ get_or edges i edge = at edge in
        let joined : joins from to edge ≡ true = rw (eq-eqb edge.from from first, eq-eqb edge.to to second) refl in
        ap (λ (e : Edge). Some e) is ∙ sym (found_at edge inside (subst (λ (e : Edge). joins from to e ≡ true) is joined))

    pub found_other : (edge : Edge) → i < length edges → ((d : Edge) → edge ≡ get_or edges i d) → ¬ ((edge.from ≡ from) × (edge.to ≡ to)) → None ≡ find (joins from to) edges
    found_other edge inside at none = sym (found_none (λ d within. subst (λ (e : Edge). ¬ ((e.from ≡ from) × (e.to ≡ to))) (at d) none) edge)

    pub found_end : length edges ≤ i → None ≡ find (joins from to) edges
    found_end past = sym (found_none (λ d within. absurd (omega arith)) (record { from = 0; to = 0; kind = Fall }))
