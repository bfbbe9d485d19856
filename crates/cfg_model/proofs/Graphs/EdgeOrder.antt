-- The order of edges that the report has is the derived one.
use Rattle.std.proofs.Common.{◌≡◌, ℕ, ◌<◌, ◌⊎◌, true, List, Ordering, refl, sym, ap, ◌∙◌, subst, inl, inr, ⊎_elim, ◌↔◌}
use Rattle.std.specs.List.{AllPairs, Contains, dedup}
use Rattle.std.specs.List.Sorted.{IsSorted, IsPermutation}
use Rattle.std.specs.Ordering.{nat_cmp, ordering_then, is_eq}
use Rattle.std.specs.declared.cmp.Ordering.TheVariants.{Less, Equal, Greater}
use Rattle.std.proofs.lemmas.Cmp.{ranked, by_ranked}
use Rattle.std.proofs.lemmas.List.Kept.{IsStrictlySortedBy-dedup, Contains-dedup, Contains-from_dedup}
use Rattle.std.proofs.lemmas.List.Sorted.{Contains-permutation, IsPermutation-sym}
use Rattle.std.proofs.lemmas.Map.Keys.{Less-from_sorted}
use Rattle.cfg_model.specs.declared.graph.Edge.{Edge}
use Rattle.cfg_model.specs.declared.graph.EdgeKind.{EdgeKind}
use Rattle.cfg_model.specs.declared.graph.EdgeKind.TheVariants as kinds
use Rattle.cfg_model.specs.Graph.Graph.{EdgeBefore, rank}
use Rattle.cfg_model.specs.contracts.graph.EdgeOrd.TheImpl.{cmp-value}
use Rattle.cfg_model.specs.contracts.graph.EdgeOrd.TheImpl.Laws.{total-law, matches_eq-law}
use Rattle.cfg_model.specs.contracts.graph.EdgePartialEq.TheImpl.{eq-value}
use Rattle.cfg_model.specs.contracts.graph.EdgeEq.TheImpl.Laws.{laws-law}
use Rattle.cfg_model.specs.contracts.graph.EdgeKindOrd.TheImpl as kind

-- what is known of two numbers that are compared first, and of the rest

then_less : (x y : ℕ) (o : Ordering) → ordering_then (nat_cmp x y) o ≡ Less → (x < y) ⊎ ((x ≡ y) × (o ≡ Less))
then_less x y o h =
    by_ranked (x < y) (x ≡ y) (y < x) (nat_cmp x y) (ranked x y (nat_cmp x y) refl)
    (λ e lt. inl lt)
    (λ e same. inr (same, subst (λ r. ordering_then r o ≡ Less) e h))
    (λ e gt. let bad : Greater ≡ Less = subst (λ r. ordering_then r o ≡ Less) e h in cc)

then_equal : (x y : ℕ) (o : Ordering) → ordering_then (nat_cmp x y) o ≡ Equal → (x ≡ y) × (o ≡ Equal)
then_equal x y o h =
    by_ranked (x < y) (x ≡ y) (y < x) (nat_cmp x y) (ranked x y (nat_cmp x y) refl)
    (λ e lt. let bad : Less ≡ Equal = subst (λ r. ordering_then r o ≡ Equal) e h in cc)
    (λ e same. (same, subst (λ r. ordering_then r o ≡ Equal) e h))
    (λ e gt. let bad : Greater ≡ Equal = subst (λ r. ordering_then r o ≡ Equal) e h in cc)

less_first : (x y : ℕ) → nat_cmp x y ≡ Less → x < y
less_first x y h =
    by_ranked (x < y) (x ≡ y) (y < x) (nat_cmp x y) (ranked x y (nat_cmp x y) refl)
    (λ e lt. lt)
    (λ e same. let bad : Equal ≡ Less = sym e ∙ h in cc)
    (λ e gt. let bad : Greater ≡ Less = sym e ∙ h in cc)

same_first : (x y : ℕ) → nat_cmp x y ≡ Equal → x ≡ y
same_first x y h =
    by_ranked (x < y) (x ≡ y) (y < x) (nat_cmp x y) (ranked x y (nat_cmp x y) refl)
    (λ e lt. let bad : Less ≡ Equal = sym e ∙ h in cc)
    (λ e same. same)
    (λ e gt. let bad : Greater ≡ Equal = sym e ∙ h in cc)

equal_from_test : (o : Ordering) → is_eq o ≡ true → o ≡ Equal
equal_from_test Less h = cc
equal_from_test Equal h = refl
equal_from_test Greater h = cc

-- kinds are in order by their rank

kind_order : (a b : EdgeKind) → (kind.cmp-value.it) a b ≡ nat_cmp (rank a) (rank b)
kind_order kinds.Fall kinds.Fall = refl
kind_order kinds.Taken kinds.Fall = refl
kind_order kinds.Jump kinds.Fall = refl
kind_order kinds.Tail kinds.Fall = refl
kind_order kinds.Call kinds.Fall = refl
kind_order kinds.After kinds.Fall = refl
kind_order kinds.Table kinds.Fall = refl
kind_order kinds.Landing kinds.Fall = refl
kind_order a b = refl

same_rank : (a b : EdgeKind) → rank a ≡ rank b → a ≡ b
same_rank kinds.Fall kinds.Fall h = refl
same_rank kinds.Taken kinds.Fall h = cc
same_rank kinds.Jump kinds.Fall h = cc
same_rank kinds.Tail kinds.Fall h = cc
same_rank kinds.Call kinds.Fall h = cc
same_rank kinds.After kinds.Fall h = cc
same_rank kinds.Table kinds.Fall h = cc
same_rank kinds.Landing kinds.Fall h = cc
same_rank a b h = cc

edge_order : (a b : Edge) → cmp-value.it a b ≡ ordering_then (nat_cmp a.from b.from) (ordering_then (nat_cmp a.to b.to) (nat_cmp (rank a.kind) (rank b.kind)))
edge_order a b = ap (λ o. ordering_then (nat_cmp a.from b.from) (ordering_then (nat_cmp a.to b.to) o)) (kind_order a.kind b.kind)

before_from_less : (a b : Edge) → cmp-value.it a b ≡ Less → EdgeBefore a b
before_from_less a b h =
    ⊎_elim
    (λ from. inl from)
    (λ rest. inr (
      rest.0,
      ⊎_elim
          (λ to. inl to)
          (λ last. inr (last.0, less_first (rank a.kind) (rank b.kind) last.1))
          (then_less a.to b.to (nat_cmp (rank a.kind) (rank b.kind)) rest.1),
    ))
    (then_less a.from b.from (ordering_then (nat_cmp a.to b.to) (nat_cmp (rank a.kind) (rank b.kind))) (sym (edge_order a b) ∙ h))

abbrev edge_of : ℕ → ℕ → EdgeKind → Edge
edge_of from to kind = record { from = from; to = to; kind = kind }

same_from_equal : (a b : Edge) → cmp-value.it a b ≡ Equal → a ≡ b
same_from_equal a b h =
    let first = then_equal a.from b.from (ordering_then (nat_cmp a.to b.to) (nat_cmp (rank a.kind) (rank b.kind))) (sym (edge_order a b) ∙ h) in
    let second = then_equal a.to b.to (nat_cmp (rank a.kind) (rank b.kind)) first.1 in
    ap (λ x. edge_of x a.to a.kind) first.0
    ∙ ap (λ x. edge_of b.from x a.kind) second.0
    ∙ ap (λ x. edge_of b.from b.to x) (same_rank a.kind b.kind (same_first (rank a.kind) (rank b.kind) second.1))

same_from_eq : (a b : Edge) → eq-value.it a b ≡ true → a ≡ b
same_from_eq a b h = same_from_equal a b (equal_from_test (cmp-value.it a b) (sym (matches_eq-law a b) ∙ h))

-- a sort and a `dedup` put edges in order, and keep them

pub edges_in_order : (ys zs : List Edge) → IsSorted cmp-value.it ys → zs ≡ dedup eq-value.it ys → AllPairs EdgeBefore zs
edges_in_order ys zs sorted is = subst (AllPairs EdgeBefore) (sym is)
    (λ i j d below within. before_from_less _ _ (Less-from_sorted cmp-value.it (dedup eq-value.it ys) i j d (IsStrictlySortedBy-dedup total-law matches_eq-law ys sorted) below within))

pub same_edges : (xs ys zs : List Edge) → IsPermutation xs ys → zs ≡ dedup eq-value.it ys → (edge : Edge) → Contains zs edge ↔ Contains xs edge
same_edges xs ys zs moves is edge = (
  λ h. Contains-permutation ys xs edge (IsPermutation-sym xs ys moves) (Contains-from_dedup eq-value.it ys edge (subst (λ l. Contains l edge) is h)),
  λ h. subst (λ l. Contains l edge) (sym is) (Contains-dedup laws-law same_from_eq ys edge (Contains-permutation xs ys edge moves h)),
)
